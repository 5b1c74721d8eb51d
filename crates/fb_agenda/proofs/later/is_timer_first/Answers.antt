use Rattle.std.proofs.Common.{sym, ◌∙◌}
use Rattle.fb_agenda.proofs.lemmas.Lists.{leads_less, leads_not_less, when_false, when_true}
use Rattle.fb_agenda.proofs.lemmas.Orders.{less_is}
use Rattle.fb_agenda.proofs.later.is_timer_first.Goals as goal

pub returns-clause-timers : goal.returns-clause-timers
returns-clause-timers c =
    let first = c.in-Some.first in
    let other = c.in-Some-first.other.now in
    when_true c.lt.result (λ less. leads_less c.args.timers.now c.args.others.now first other c.in-Some.ensures.some c.in-Some-first.ensures.some (sym (c.lt.ensures ∙ less_is first other) ∙ less))

pub returns-clause-others : goal.returns-clause-others
returns-clause-others c =
    let first = c.in-Some.first in
    let other = c.in-Some-first.other.now in
    when_false c.lt.result (λ less. leads_not_less c.args.timers.now c.args.others.now first other c.in-Some.ensures.some c.in-Some-first.ensures.some (sym (c.lt.ensures ∙ less_is first other) ∙ less))

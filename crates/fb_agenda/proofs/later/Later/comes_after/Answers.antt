use Rattle.std.proofs.Common.{sym, ◌∙◌}
use Rattle.fb_agenda.proofs.lemmas.Lists.{leads_less, leads_none, leads_not_less, when_false, when_true}
use Rattle.fb_agenda.proofs.lemmas.Orders.{less_is}
use Rattle.fb_agenda.proofs.later.Later.comes_after.Goals as goal

pub returns-in_default-clause-after : goal.returns-in_default-clause-after
returns-in_default-clause-after c es first = leads_none es c.args.self.now.events c.in_default.ensures.none

pub returns-clause-after : goal.returns-clause-after
returns-clause-after c =
    let key = c.args.key.now in
    let first = c.in-Some.first in
    when_true c.lt.result (λ less es is. leads_less es c.args.self.now.events key first is c.in-Some.ensures.some (sym (c.lt.ensures ∙ less_is key first) ∙ less))

pub returns-clause-before : goal.returns-clause-before
returns-clause-before c =
    let key = c.args.key.now in
    let first = c.in-Some.first in
    when_false c.lt.result (λ less es is. leads_not_less es c.args.self.now.events key first is c.in-Some.ensures.some (sym (c.lt.ensures ∙ less_is key first) ∙ less))

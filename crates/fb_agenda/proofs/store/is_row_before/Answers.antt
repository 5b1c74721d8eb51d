use Rattle.std.proofs.Common.{sym, ◌∙◌}
use Rattle.fb_agenda.proofs.lemmas.Lists.{leads_less, leads_not_less, when_false, when_true}
use Rattle.fb_agenda.proofs.lemmas.Orders.{less_is}
use Rattle.fb_agenda.proofs.store.is_row_before.Goals as goal

pub returns-in-Some-first_of_row-clause-row : goal.returns-in-Some-first_of_row-clause-row
returns-in-Some-first_of_row-clause-row c =
    let first = c.in-Some-first_of_row.first.now in
    let other = c.in-Some.other.now in
    when_true c.lt.result
    (λ less. leads_less c.args.row.now.items c.args.map.now.entries first other c.in-Some-first_of_row.ensures.some c.in-Some.ensures.some (sym (c.lt.ensures ∙ less_is first other) ∙ less))

pub returns-in-Some-first_of_row-clause-map : goal.returns-in-Some-first_of_row-clause-map
returns-in-Some-first_of_row-clause-map c =
    let first = c.in-Some-first_of_row.first.now in
    let other = c.in-Some.other.now in
    when_false c.lt.result
    (λ less. leads_not_less c.args.row.now.items c.args.map.now.entries first other c.in-Some-first_of_row.ensures.some c.in-Some.ensures.some (sym (c.lt.ensures ∙ less_is first other) ∙ less))

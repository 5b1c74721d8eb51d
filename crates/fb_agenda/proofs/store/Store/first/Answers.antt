use Rattle.fb_agenda.proofs.lemmas.Lists.{few_first, many_first}
use Rattle.fb_agenda.proofs.store.Store.first.Goals as goal

pub returns-then-is_row_first-clause-some : goal.returns-then-is_row_first-clause-some
returns-then-is_row_first-clause-some c =
    rw (← c.self.view_is) (few_first c.self.inside.row.items c.self.inside.map.entries c.if-is_row_first.ensures.row c.first_of_row.result c.first_of_row.ensures.some)

pub returns-else-is_row_first-clause-some : goal.returns-else-is_row_first-clause-some
returns-else-is_row_first-clause-some c =
    rw (← c.self.view_is) (many_first c.self.inside.row.items c.self.inside.map.entries c.if-is_row_first.ensures.map c.first_of_map.result c.first_of_map.ensures.some)

use Rattle.std.proofs.lemmas.List.{nil_from_length}
use Rattle.fb_agenda.proofs.lemmas.Lists.{leads_none}
use Rattle.fb_agenda.proofs.store.is_row_first.Goals as goal

pub returns-then-is_empty-clause-row : goal.returns-then-is_empty-clause-row
returns-then-is_empty-clause-row c = leads_none c.args.row.now.items c.args.map.now.entries (nil_from_length c.args.map.now.entries (c.is_empty.ensures.0 c.if-is_empty.true))

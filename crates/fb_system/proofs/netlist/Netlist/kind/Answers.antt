use Rattle.fb_system.proofs.lemmas.inputs.Views.{within_of, row_of, kind_of_row}
use Rattle.fb_system.proofs.netlist.Netlist.kind.Goals as goal

pub row_at-requires-clause-within : goal.row_at-requires-clause-within
row_at-requires-clause-within c = within_of c.self.inside.tables _ _ c.self.view_is c.requires

pub returns-clause-is : goal.returns-clause-is
returns-clause-is c = kind_of_row _ _ _ (row_of c.self.inside.tables _ _ _ c.self.view_is c.row_at.ensures)

pub returns-clause-known : goal.returns-clause-known
returns-clause-known c = let row = row_of c.self.inside.tables _ _ _ c.self.view_is c.row_at.ensures in (row.kind, row.numbered)

use Rattle.fb_system.proofs.lemmas.inputs.Views.{within_of, row_of, components_of_row}
use Rattle.fb_system.proofs.netlist.Netlist.components.Goals as goal

pub row_at-requires-clause-within : goal.row_at-requires-clause-within
row_at-requires-clause-within c = within_of c.self.inside.tables _ _ c.self.view_is c.requires

pub returns : goal.returns
returns c = components_of_row _ _ _ _ (row_of c.self.inside.tables _ _ _ c.self.view_is c.row_at.ensures) c.as_slice.ensures

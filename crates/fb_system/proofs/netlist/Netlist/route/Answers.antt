use Rattle.std.proofs.Common.{◌∙◌}
use Rattle.fb_system.proofs.lemmas.inputs.Views.{within_of, row_of}
use Rattle.fb_system.proofs.netlist.Netlist.route.Goals as goal

pub row_at-requires-clause-within : goal.row_at-requires-clause-within
row_at-requires-clause-within c = within_of c.self.inside.tables _ _ c.self.view_is c.requires

pub returns : goal.returns
returns c = c.as_slice.ensures ∙ (row_of c.self.inside.tables _ _ _ c.self.view_is c.row_at.ensures).route

use Rattle.fb_system.proofs.lemmas.inputs.Views.{parameters_seen, within_of}
use Rattle.fb_system.proofs.netlist.Netlist.parameters.Goals as goal

pub parameters_at-requires-clause-within : goal.parameters_at-requires-clause-within
parameters_at-requires-clause-within c = within_of c.self.inside.tables _ _ c.self.view_is c.requires

pub returns : goal.returns
returns c = parameters_seen c.self.inside.tables _ _ _ c.self.view_is c.parameters_at.ensures

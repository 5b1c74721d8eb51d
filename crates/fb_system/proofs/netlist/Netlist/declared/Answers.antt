use Rattle.fb_system.proofs.lemmas.inputs.Views.{declared_seen, within_of}
use Rattle.fb_system.proofs.netlist.Netlist.declared.Goals as goal

pub declared_at-requires-clause-within : goal.declared_at-requires-clause-within
declared_at-requires-clause-within c = within_of c.self.inside.tables _ _ c.self.view_is c.requires

pub returns : goal.returns
returns c = declared_seen c.self.inside.tables _ _ _ c.self.view_is c.declared_at.ensures

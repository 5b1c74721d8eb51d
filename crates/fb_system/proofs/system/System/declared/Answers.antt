use Rattle.fb_system.proofs.lemmas.inputs.TablesOfInputs.{declared_seen, within_seen}
use Rattle.fb_system.proofs.system.System.declared.Goals as goal

pub declared-requires : goal.declared-requires
declared-requires c = within_seen _ _ _ _ c.deref.ensures c.self.view_is c.requires

pub returns : goal.returns
returns c = declared_seen _ _ _ _ _ c.deref.ensures c.self.view_is c.declared.ensures

use Rattle.fb_system.proofs.lemmas.inputs.TablesOfInputs.{parent_seen, within_seen}
use Rattle.fb_system.proofs.system.System.parent.Goals as goal

pub parent-requires : goal.parent-requires
parent-requires c = within_seen _ _ _ _ c.deref.ensures c.self.view_is c.requires

pub returns : goal.returns
returns c = parent_seen _ _ _ _ _ c.deref.ensures c.self.view_is c.parent.ensures

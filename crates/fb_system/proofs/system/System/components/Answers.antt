use Rattle.fb_system.proofs.lemmas.inputs.TablesOfInputs.{components_seen, within_seen}
use Rattle.fb_system.proofs.system.System.components.Goals as goal

pub components-requires : goal.components-requires
components-requires c = within_seen _ _ _ _ c.deref.ensures c.self.view_is c.requires

pub returns : goal.returns
returns c = components_seen _ _ _ _ _ c.deref.ensures c.self.view_is c.components.ensures

use Rattle.fb_system.proofs.lemmas.inputs.TablesOfInputs.{text_seen, within_seen}
use Rattle.fb_system.proofs.system.System.path.Goals as goal

pub path-requires : goal.path-requires
path-requires c = within_seen _ _ _ _ c.deref.ensures c.self.view_is c.requires

pub returns : goal.returns
returns c = text_seen _ _ _ _ _ c.deref.ensures c.self.view_is c.path.ensures

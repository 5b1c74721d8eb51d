use Rattle.fb_system.proofs.lemmas.inputs.TablesOfInputs.{kind_seen, within_seen}
use Rattle.fb_system.proofs.system.System.kind.Goals as goal

pub kind-requires : goal.kind-requires
kind-requires c = within_seen _ _ _ _ c.deref.ensures c.self.view_is c.requires

pub returns : goal.returns
returns c = kind_seen _ _ _ _ _ c.deref.ensures c.self.view_is c.kind.ensures.is

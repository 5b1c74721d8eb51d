use Rattle.fb_system.proofs.lemmas.inputs.TablesOfInputs.{top_seen}
use Rattle.fb_system.proofs.system.System.top.Goals as goal

pub returns : goal.returns
returns c = top_seen _ _ _ _ c.deref.ensures c.self.view_is c.top.ensures

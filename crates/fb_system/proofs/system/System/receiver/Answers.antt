use Rattle.std.proofs.Common.{◌∙◌}
use Rattle.fb_system.proofs.lemmas.inputs.TablesOfInputs.{receiver_seen}
use Rattle.fb_system.proofs.system.System.receiver.Goals as goal

pub returns : goal.returns
returns c = c.receiver.ensures ∙ receiver_seen _ _ _ _ c.self.invariant.tables c.deref.ensures c.self.view_is

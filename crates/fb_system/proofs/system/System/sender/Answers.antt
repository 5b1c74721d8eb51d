use Rattle.std.proofs.Common.{◌∙◌}
use Rattle.fb_system.proofs.lemmas.inputs.TablesOfInputs.{sender_seen}
use Rattle.fb_system.proofs.system.System.sender.Goals as goal

pub returns : goal.returns
returns c = c.sender.ensures ∙ sender_seen _ _ _ _ c.self.invariant.tables c.deref.ensures c.self.view_is

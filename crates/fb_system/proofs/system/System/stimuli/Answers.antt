use Rattle.std.proofs.Common.{◌∙◌}
use Rattle.fb_system.proofs.lemmas.inputs.TablesOfInputs.{stimuli_seen}
use Rattle.fb_system.proofs.system.System.stimuli.Goals as goal

pub returns : goal.returns
returns c = c.as_slice.ensures ∙ stimuli_seen _ _ _ c.deref.ensures c.self.view_is

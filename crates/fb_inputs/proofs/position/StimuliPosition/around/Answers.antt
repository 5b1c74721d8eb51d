use Rattle.std.proofs.Common.{sym, ap}
use Rattle.fb_inputs.specs.Positions.{around_stimuli}
use Rattle.fb_inputs.proofs.position.StimuliPosition.around.Goals as goal

pub returns-in-Word : goal.returns-in-Word
returns-in-Word c = sym (ap around_stimuli c.in-Word.is)

use Rattle.fb_inputs.proofs.lemmas.stimuli.StimulusFaults.{refused-at}
use Rattle.fb_inputs.proofs.stimuli.stimuli_location.Goals as goal

pub returns-in-Ok : goal.returns-in-Ok
returns-in-Ok c = (_, c.in-Ok.ensures)

pub returns-in-Err-At : goal.returns-in-Err-At
returns-in-Err-At c = refused-at c.args.bytes.now c.in-Err-At.location (rw c.in-Err-At.field-0-is at c.in-Err-At.ensures)

use Rattle.fb_inputs.proofs.lemmas.stimuli.Rows.{refused_number, taken}
use Rattle.fb_inputs.proofs.stimuli.read_stimuli.Goals as goal

pub returns-in-Ok : goal.returns-in-Ok
returns-in-Ok c = taken c.args.bytes.now _ c.in-Ok.ensures

pub returns-in-Err : goal.returns-in-Err
returns-in-Err c = refused_number c.args.bytes.now c.in-Err.fault c.error_at.result c.error_at.ensures c.in-Err.ensures

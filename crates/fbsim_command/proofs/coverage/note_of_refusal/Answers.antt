use Rattle.std.proofs.Common.{◌≡◌, rules}
use Rattle.fbsim_command.specs.Covering.{note_front}
use Rattle.fbsim_command.specs.Notes.{noted_of}
use Rattle.fbsim_command.proofs.lemmas.calls.CoverageCalls.{trace-noted}
use Rattle.fbsim_command.proofs.coverage.note_of_refusal.Goals as goal

pub returns : goal.returns
returns c =
    let front : c.as_str.result.now ≡ note_front c.are_several.result c.args.name.now = search rules in
    trace-noted c.args.coverage.now c.args.system.now c.args.refused.now c.are_several.result c.as_str.result.now c.args.name.now c.args.line (noted_of c.note_of_inside.result) c.are_several.ensures front c.note_of_inside.ensures

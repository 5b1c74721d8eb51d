use Rattle.fb_types.proofs.Common.{IfOk, List, string_bytes, subst}
use Rattle.fbsim_command.specs.InputNotes.{types_in}
use Rattle.fbsim_command.specs.OwnLines.{IsPlaced}
use Rattle.fbsim_command.proofs.notes.note_at_place.Goals as goal
use Rattle.fbsim_command.specs.declared.join.FileLines.{FileLines}

pub returns : goal.returns
returns c =
    let refused = c.args.refused.now in
    subst (λ (lines : List FileLines). IfOk c.note_at.result (λ note. IsPlaced (types_in refused) refused.own.now lines c.args.at.line c.args.at.column (string_bytes note))) c.as_slice-lines.ensures.value
    c.note_at.ensures

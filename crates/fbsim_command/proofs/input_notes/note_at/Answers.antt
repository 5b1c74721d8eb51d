use Rattle.fb_types.proofs.Common.{IfOk, List, string_bytes, subst, ℕ}
use Rattle.fbsim_command.specs.OwnLines.{IsPlacedText}
use Rattle.fbsim_command.proofs.input_notes.note_at.Goals as goal

pub returns : goal.returns
returns c =
    let at = c.args.place.at in
    subst (λ (name : List ℕ). IfOk c.placed.result (λ note. IsPlacedText name at.line at.column (string_bytes note))) c.name_in-name.ensures c.placed.ensures

use Rattle.fbsim_command.proofs.lemmas.Common.{IfOk, List, ℕ, string_bytes, subst, names_of, given_of}
use Rattle.fbsim_command.specs.InputNotes.{IsNoteThere}
use Rattle.fbsim_command.proofs.lemmas.notes.Noting.{noted-there}
use Rattle.fbsim_command.proofs.notes.note_elsewhere.Goals as goal

pub returns : goal.returns
returns c =
    let refused = c.args.refused.now in
    subst (λ (w : List ℕ). IfOk c.note_there.result (λ note. IsNoteThere (names_of refused.names) (given_of refused.texts.now) c.args.found.now.finding.location w (string_bytes note)))
    c.in_ok-words.ensures.cases
    (noted-there (names_of refused.names) (given_of refused.texts.now) c.args.found.now c.args.place (string_bytes c.in_ok-words.words) c.note_there.result c.requires c.note_there.ensures)

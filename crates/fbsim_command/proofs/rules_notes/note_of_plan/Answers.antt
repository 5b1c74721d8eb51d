use Rattle.fbsim_command.proofs.lemmas.Common.{Bor, IfOk, List, ℕ, map, noted_of, subst, types_of, given_of, lines_of}
use Rattle.fbsim_command.specs.Expecting.{input_names_of}
use Rattle.fbsim_command.specs.Notes.{NotesNumber}
use Rattle.fbsim_command.proofs.rules_notes.note_of_plan.Goals as goal

pub returns : goal.returns
returns c =
    let texts = c.args.texts.now in
    let note = noted_of c.note_of_number.result in
    subst (λ (own : List ℕ). IfOk note (NotesNumber (types_of c.args.expect.now) own (input_names_of c.args.expect.now) (lines_of texts) (given_of texts) c.args.number)) c.own_name-own.ensures
    (subst (λ (ns : List (Bor (List ℕ))). IfOk note (NotesNumber (map (λ (n : Bor (List ℕ)). n.now) ns) c.own_name-own.result.now (input_names_of c.args.expect.now) (lines_of texts) (given_of texts) c.args.number))
    c.as_slice.ensures.value c.note_of_number.ensures)

use Rattle.std.proofs.Common.{◌≡◌, Bool, Global, List, ℕ, [], ◌∷◌, ◌++◌, String, string_bytes, append_assoc, sym, ◌∙◌, ap}
use Rattle.fbsim_command.specs.Notes.{on_line}
use Rattle.fbsim_command.proofs.lemmas.notes.Noting.{pushed}
use Rattle.fbsim_command.proofs.notes.push_note.Goals.{then-not-is_first+in_ok-push_str, else-not-is_first}
use Rattle.fbsim_command.proofs.notes.push_note.Goals as goal

pub returns : goal.returns
returns c =
    let old : List ℕ = string_bytes c.args.text.now in
    let note : List ℕ = c.args.note.now in
    let bytes = λ (s : String Global). string_bytes s in
    let all : bytes c.if-not-is_first.text ++ note ≡ old ++ on_line c.args.is_first note =
    elim c.if-not-is_first.branch [
      | then-not-is_first+in_ok-push_str w ↦
          ap (λ (l : List ℕ). l ++ note) (ap bytes w.text-is ∙ w.in_ok-push_str.ensures.bytes) ∙ append_assoc old (10 ∷ []) note
          ∙ ap (λ (b : Bool). old ++ on_line b note) (sym w.if-not-is_first.true)
      | else-not-is_first w ↦ ap (λ (l : List ℕ). l ++ note) (ap bytes w.text-is) ∙ ap (λ (b : Bool). old ++ on_line b note) (sym w.if-not-is_first.false)
    ] in
    pushed c.push_str-2.result (bytes c.if-not-is_first.text) note _ _ (old ++ on_line c.args.is_first note) all c.push_str-2.ensures.bytes

use Rattle.fb_types.proofs.Common.{◌≡◌, ◌==◌, ◌∙◌, ℕ, [], ap, eqb-true, length, string_bytes, subst, sym, true≢false}
use Rattle.fbsim_command.specs.InsideNotes.{IsWordsOf}
use Rattle.clap.specs.Words.{Text}
use Rattle.fbsim_command.proofs.lemmas.calls.Warning.{no_lines}
use Rattle.fbsim_command.proofs.inside_notes.inside_note.Goals as goal

pub returns-then-is_empty : goal.returns-then-is_empty
returns-then-is_empty c =
    let words = string_bytes c.in_ok-words.words in
    let none : words ≡ [] = no_lines words (eqb-true (length words) 0 (sym (c.is_empty.ensures ∙ ap (λ (n : ℕ). n == 0) c.in_ok-words.words.bytes.ok.0) ∙ c.if-is_empty.true)) in
    subst (λ (t : Text). IsWordsOf c.args.system.now c.args.refused.now t) none c.in_ok-words.ensures

pub returns : goal.returns
returns c =
    let words = string_bytes c.in_ok-words.words in (
      words,
      λ none. true≢false (sym (c.is_empty.ensures ∙ ap (λ (n : ℕ). n == 0) c.in_ok-words.words.bytes.ok.0 ∙ ap (λ (t : Text). length t == 0) none) ∙ c.if-is_empty.false),
      c.in_ok-words.ensures,
      c.in_ok-format.ensures.ok,
    )

use Rattle.std.proofs.Common.{◌≡◌, ◌-◌, ◌≤◌, Bool, Bor, ℕ, List, Option, Some, get_or, length, inl, inr, sym, ap, ◌∙◌, arith}
use Rattle.std.specs.Prelude.{◌==◌, not, slice_get}
use Rattle.std.specs.Option.{option_copied}
use Rattle.std.proofs.lemmas.Bool.{both_ways, cases_lt, eq-eqb, ne_eqb, not-true}
use Rattle.std.proofs.lemmas.List.{get_or-take, length-take-le}
use Rattle.std.proofs.lemmas.Option.{get_or_from_slice_get, slice_get_within}
use Rattle.fb_expect.specs.Lines.{IsOneLine}
use Rattle.fb_expect.specs.Traces.{HasNoEnd}
use Rattle.fb_expect.proofs.judging.is_cut.Goals as goal

-- one line whose last byte is no line feed has none
no_end : (xs : List ℕ) (b : ℕ) → slice_get xs (length xs - 1) ≡ Some b → (b ≡ 10 → ⊥) → IsOneLine xs → HasNoEnd xs
no_end xs b is other one = λ k d within end.
    elim (cases_lt k (length xs - 1)) [
      | inl before ↦
          let front : length xs - 1 ≤ length xs = omega arith in
          one k d (omega (arith, before, length-take-le (length xs - 1) xs front)) (get_or-take (length xs - 1) xs k d before ∙ end)
      | inr after ↦
          let last : k ≡ length xs - 1 = omega (arith, within, after) in
          other (sym (get_or_from_slice_get xs (length xs - 1) b d is) ∙ ap (λ (j : ℕ). get_or xs j d) (sym last) ∙ end)
    ]

pub returns-in-Some-clause-cut : goal.returns-in-Some-clause-cut
returns-in-Some-clause-cut c = λ yes one.
    let last = c.in-Some.last.now in
    no_end c.args.line.now last (sym c.last.ensures.value ∙ ap (λ (o : Option (Bor ℕ)). option_copied o) c.in-Some.is)
    (λ feed. both_ways (last == 10) (not-true (last == 10) yes) (eq-eqb last 10 feed)) one

has_end : (xs : List ℕ) (b : ℕ) → slice_get xs (length xs - 1) ≡ Some b → HasNoEnd xs → b ≡ 10 → ⊥
has_end xs b is none feed =
    let inside = slice_get_within xs (length xs - 1) b is in
    none (length xs - 1) 0 inside (get_or_from_slice_get xs (length xs - 1) b 0 is ∙ feed)

pub returns-in-Some-clause-whole : goal.returns-in-Some-clause-whole
returns-in-Some-clause-whole c = λ none.
    let last = c.in-Some.last.now in
    ap (λ (b : Bool). not b)
    (ne_eqb last 10 (has_end c.args.line.now last (sym c.last.ensures.value ∙ ap (λ (o : Option (Bor ℕ)). option_copied o) c.in-Some.is) none))

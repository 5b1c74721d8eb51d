use Rattle.std.proofs.Common.{◌≡◌, ℕ, List, [], ◌∷◌, Some, None, length, refl, sym, ap, ◌∙◌, arith}
use Rattle.std.specs.Prelude.{IfSome, Option}
use Rattle.std.specs.Io.BufRead.{take_through}
use Rattle.std.proofs.lemmas.Bool.{eq-eqb, eqb-true, true≢false}
use Rattle.fb_expect.proofs.lines.is_over.Goals as goal

empty : (xs : List ℕ) → length xs ≡ 0 → xs ≡ []
empty [] none = refl
empty (x ∷ xs) none = absurd (omega (arith, none))

pub returns-clause-over : goal.returns-clause-over
returns-clause-over g c = λ yes.
    let line = c.next_line.new.line in
    let none : length line.items ≡ 0 = omega (arith, eqb-true _ 0 (sym c.is_empty.ensures ∙ yes), line.ok.0) in
    c.in_ok-next_line.ensures.end (empty line.items none)

-- a line that is not empty comes from a text that is not
left : (o : Option (List ℕ)) (line : List ℕ) → IfSome o (λ xs. line ≡ take_through 10 xs) → (length line ≡ 0 → ⊥) → IfSome o (λ rest. rest ≡ [] → ⊥)
left None line is some = tt
left (Some xs) line is some = λ none. some (ap length (is ∙ ap (take_through 10) none))

pub returns-clause-more : goal.returns-clause-more
returns-clause-more g c = λ no.
    let line = c.next_line.new.line in
    left (g.R.Read.remaining c.args.input.now) line.items c.in_ok-next_line.ensures.line
    (λ none. true≢false (sym (eq-eqb _ 0 (omega (arith, none, line.ok.0))) ∙ sym c.is_empty.ensures ∙ no))

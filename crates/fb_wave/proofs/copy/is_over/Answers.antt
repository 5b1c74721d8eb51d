use Rattle.fb_types.proofs.Common.{◌≡◌, ◌<◌, ◌+◌, ℕ, true, false, eqb, List, [], ◌∷◌, length, vec_len, Option, Some, None, refl, sym, ap, ◌∙◌, length-append, arith, IfSome, Consumes, eqb-false, eqb-true}
use Rattle.fb_wave.proofs.copy.is_over.Goals as goal

no_items : (xs : List ℕ) (n : ℕ) → length xs ≡ n → eqb n 0 ≡ true → xs ≡ []
no_items [] n long none = refl
no_items (x ∷ xs) n long none = let is : n ≡ 0 = eqb-true n 0 none in absurd (omega (arith, long, is))

some_items : (xs : List ℕ) (n : ℕ) → length xs ≡ n → eqb n 0 ≡ false → 0 < length xs
some_items [] n long some = absurd (eqb-false n 0 some (sym long))
some_items (x ∷ xs) n long some = omega arith

-- where some bytes were read, some were left
some_left : (old new : Option (List ℕ)) (line : List ℕ) → Consumes old new line → 0 < length line → IfSome old (λ rest. 0 < length rest)
some_left None new line read some = tt
some_left (Some xs) None line read some = absurd read
some_left (Some xs) (Some ys) line read some = let sum : length xs ≡ length line + length ys = ap length read ∙ length-append line ys in omega (arith, sum, some)

pub returns-clause-over : goal.returns-clause-over
returns-clause-over g c = λ yes.
    let line = c.next_line.new.line in
    let long : length line.items ≡ vec_len line = omega (arith, line.ok.0) in
    c.in_ok-next_line.ensures.end (no_items line.items (vec_len line) long (sym c.is_empty.ensures ∙ yes))

pub returns-clause-more : goal.returns-clause-more
returns-clause-more g c = λ no.
    let line = c.next_line.new.line in
    let long : length line.items ≡ vec_len line = omega (arith, line.ok.0) in
    some_left (g.R.Read.remaining c.args.input.now) (g.R.Read.remaining c.next_line.new.input) line.items c.in_ok-next_line.ensures.read
    (some_items line.items (vec_len line) long (sym c.is_empty.ensures ∙ no))

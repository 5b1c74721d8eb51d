-- Steps of a parser that did not fail, one after another.
use Rattle.fb_read.proofs.lemmas.Common.{◌≡◌, Ok, Err, refl, Tokens, Parser, Outcome, and_then}

-- What follows from two steps that did not fail. The variables of `k` are short; the parts of a pair would be written out
-- wherever they are used, and so would those that they are made of.
pub both_done : {A B P : Type 0} (r : Outcome A) (f : A → Parser B) (y : B × Tokens) → and_then r f ≡ Ok y → (k : (x : A) (mid : Tokens) → r ≡ Ok (x, mid) → f x mid ≡ Ok y → P) → P
both_done (Ok p) f y e k = k p.0 p.1 refl e
both_done (Err fault) f y e k = absurd cc

use Rattle.fb_wave.proofs.lemmas.Common.{◌≡◌, ℕ, List, [], ◌∷◌, Some, ap, ◌∙◌, slice_get, is_end, is_ended}
use Rattle.fb_wave.proofs.table.ends_word.Goals as goal

same_byte : (a b : ℕ) → Some a ≡ Some b → a ≡ b
same_byte a b e = cc

ended_by : (text : List ℕ) (b : ℕ) → Some b ≡ slice_get text 0 → is_end b ≡ is_ended text
ended_by [] b is = absurd cc
ended_by (a ∷ text) b is = ap is_end (same_byte b a is)

pub returns-in-Some : goal.returns-in-Some
returns-in-Some c = c.is_end.ensures ∙ ended_by c.args.rest.now c.in-Some.byte.now c.in-Some.ensures.value

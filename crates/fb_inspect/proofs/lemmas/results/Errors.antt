-- Errors that refuse a line, or none.
use Rattle.fb_inspect.proofs.lemmas.Common.{◌≡◌, ℕ, List, Option, Some, None, refl, sym, subst, IfSome, Refusal, Refuses, WalkError, Refused}
use Rattle.fb_inspect.specs.declared.walk.error.WalkError.TheVariants.{Memory, Read, Write}

-- what is said of a text that may be known
pub of_known : (o : Option (List ℕ)) (P : Refusal → List ℕ → Type 0) (e : WalkError) → ((text : List ℕ) → o ≡ Some text → Refuses (λ n. P n text) e) → Refuses (λ n. IfSome o (P n)) e
of_known (Some text) P e f = f text refl
of_known None P (Refused n) f = tt
of_known None P Memory f = tt
of_known None P Read f = tt
of_known None P (Write n) f = tt

-- the refusal of a line
pub of_refusal : (P : Refusal → Type 0) (e : WalkError) (n : Refusal) → e ≡ Refused n → P n → Refuses P e
of_refusal P e n is h = subst (Refuses P) (sym is) h

-- The last mark of a text, as far as it was looked for.
use Rattle.fb_types.proofs.Common.{◌≡◌, ℕ, ◌<◌, Bool, true, List, ◌∷◌, ◌++◌, take, get_or, codes, ap, ◌∙◌, ◌==◌, not, IfSome, MatchOption, Option, Some, None, list_all}
use Rattle.fb_wave.specs.Words.{IsCut}
use Rattle.fb_inspect.specs.refused.LineFaults.{IsNamed}

-- no mark is in a text
abbrev pub has_none : ℕ → List ℕ → Bool
has_none mark text = list_all (λ b. not (b == mark)) text

-- the index of the last mark among the first bytes, this many
abbrev pub IsFound : (mark : ℕ) → (text : List ℕ) → (count : ℕ) → Option ℕ → Type 0
IsFound mark text count None = has_none mark (take count text) ≡ true
IsFound mark text count (Some i) = (i < count) × (get_or text i 0 ≡ mark)

-- a blank, a name, a mark and a value
pub named_from :
    {P : Type 0} (name value : P → List ℕ) (o : Option P) (N : Type 0) (text t word rest : List ℕ) → text ≡ codes " " ++ t → IsCut t word rest
    → MatchOption o N (λ p. word ≡ name p ++ 61 ∷ value p) → IfSome o (λ p. (more : List ℕ) × IsNamed text (name p) (value p) more)
named_from name value None N text t word rest blank cut parts = tt
named_from name value (Some p) N text t word rest blank cut parts =
    (rest, record { parts = blank ∙ ap (λ (l : List ℕ). 32 ∷ l) (cut.parts ∙ ap (λ (l : List ℕ). l ++ rest) parts); ended = cut.ended })

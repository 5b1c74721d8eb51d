-- Whether a path is another one, or that of a component.
use Rattle.fb_types.proofs.Common.{◌≡◌, ℕ, Bool, true, false, ◌&&◌, List, [], ◌∷◌, ◌++◌, refl, ◌∙◌, ap, nat_eq, arith, and_parts, false_from_ne_true, false≢true, nat_tests}
use Rattle.fb_inspect.specs.Selections.{is_cut_there, is_within}

nat_eq-itself : (n : ℕ) → nat_eq n n ≡ true
nat_eq-itself n = grind (arith, nat_tests)

nat_eq-is : (m n : ℕ) → nat_eq m n ≡ true → m ≡ n
nat_eq-is m n h = grind (arith, nat_tests)

-- a text that begins with the other one
pub within_front : (whole rest : List ℕ) → is_within whole (whole ++ rest) ≡ is_cut_there rest
within_front [] rest = refl
within_front (b ∷ bs) rest = ap (λ (t : Bool). t && is_within bs (bs ++ rest)) (nat_eq-itself b) ∙ within_front bs rest

-- one that is within another begins with it
pub within_begins : (whole text : List ℕ) → is_within whole text ≡ true → (rest : List ℕ) × (text ≡ whole ++ rest)
within_begins [] text h = (text, refl)
within_begins (b ∷ bs) [] h = absurd (false≢true h)
within_begins (b ∷ bs) (c ∷ cs) h =
    let parts = and_parts (nat_eq c b) (is_within bs cs) h in
    let more = within_begins bs cs parts.1 in
    (more.0, ap (λ (n : ℕ). n ∷ cs) (nat_eq-is c b parts.0) ∙ ap (λ (l : List ℕ). b ∷ l) more.1)

pub within_none : (whole text : List ℕ) → ((rest : List ℕ) → text ≡ whole ++ rest → ⊥) → is_within whole text ≡ false
within_none whole text none = false_from_ne_true (is_within whole text) (λ h. let one = within_begins whole text h in none one.0 one.1)

-- what comes after the other one
pub within_by : (whole text rest : List ℕ) → text ≡ whole ++ rest → is_within whole text ≡ is_cut_there rest
within_by whole text rest is = ap (is_within whole) is ∙ within_front whole rest

-- Two lists that are made side by side, one by number and the other by name.
use Rattle.fb_types.proofs.Common.{◌≡◌, ℕ, zero, suc, Bool, true, false, cond, List, [], ◌∷◌, ◌++◌, map, length, Option, Some, None, refl, sym, ◌∙◌, ap, subst, append-nil, slice_get, filter, first_of}
use Rattle.fb_check_names.specs.Numbers.{each_or_none}
use Rattle.fb_check_names.proofs.lemmas.Each.{each_parts}

-- each element of the one list matches the one at its index in the other
abbrev pub Pairwise : {A B : Type 0} → (A → B → Type 0) → List A → List B → Type 0
Pairwise R [] [] = Unit {0}
Pairwise R [] (y ∷ ys) = ⊥
Pairwise R (x ∷ xs) [] = ⊥
Pairwise R (x ∷ xs) (y ∷ ys) = R x y × Pairwise R xs ys

-- Of wires that are made of connections one by one, those that pass a test match the connections that pass one that
-- agrees.
pub alike :
    {C W P A B : Type 0} (f : C → Option W) (R : A → B → Type 0) (pass : W → Bool) (value : W → A) (pair : C → P) (chosen : P → Bool) (part : P → B)
    → ((c : C) (w : W) → f c ≡ Some w → (chosen (pair c) ≡ pass w) × R (value w) (part (pair c)))
    → (cs : List C) (ws : List W) → each_or_none f cs ≡ Some ws
    → Pairwise R (map value (filter pass ws)) (map part (filter chosen (map pair cs)))
alike {C} {W} {P} {A} {B} f R pass value pair chosen part same [] ws h =
    let none : [] ≡ ws = cc in
    subst (λ (ws : List W). Pairwise R (map value (filter pass ws)) []) none tt
alike {C} {W} {P} {A} {B} f R pass value pair chosen part same (c ∷ cs) ws h =
    let r = each_parts f c cs ws h in
    let w = r.0 in
    let s = same c w r.2 in
    let rest = alike f R pass value pair chosen part same cs r.1 r.3 in
    let others = filter chosen (map pair cs) in
    let first : (b : Bool) → Pairwise R (map value (cond b (w ∷ filter pass r.1) (filter pass r.1))) (map part (cond b (pair c ∷ others) others)) =
    λ b. elim b as (λ b. Pairwise R (map value (cond b (w ∷ filter pass r.1) (filter pass r.1))) (map part (cond b (pair c ∷ others) others))) [
      | true ↦ (s.1, rest)
      | false ↦ rest
    ] in
    let here = subst (λ (b : Bool). Pairwise R (map value (filter pass (w ∷ r.1))) (map part (cond b (pair c ∷ others) others))) (sym s.0) (first (pass w)) in
    subst (λ (ws : List W). Pairwise R (map value (filter pass ws)) (map part (filter chosen (map pair (c ∷ cs))))) (sym r.4) here

-- none of the connections passes
pub none_chosen :
    {C W P B : Type 0} (f : C → Option W) (pair : C → P) (chosen : P → Bool) (part : P → B)
    → ((c : C) (w : W) → f c ≡ Some w → chosen (pair c) ≡ false)
    → (cs : List C) (ws : List W) → each_or_none f cs ≡ Some ws
    → map part (filter chosen (map pair cs)) ≡ []
none_chosen f pair chosen part fails [] ws h = refl
none_chosen f pair chosen part fails (c ∷ cs) ws h =
    let r = each_parts f c cs ws h in
    ap (λ b. map part (cond b (pair c ∷ filter chosen (map pair cs)) (filter chosen (map pair cs)))) (fails c r.0 r.2)
    ∙ none_chosen f pair chosen part fails cs r.1 r.3

-- ---- Lookups

pub pair_at :
    {A B : Type 0} (R : A → B → Type 0) (xs : List A) (ys : List B) (k : ℕ) (x : A) → Pairwise R xs ys → slice_get xs k ≡ Some x
    → (y : B) × (slice_get ys k ≡ Some y) × R x y
pair_at R [] ys k x h g = absurd (cc)
pair_at R (z ∷ xs) [] k x h g = absurd h
pair_at {A} {B} R (z ∷ xs) (y ∷ ys) zero x h g =
    let same : z ≡ x = cc in (y, refl, subst (λ (z : A). R z y) same h.0)
pair_at R (z ∷ xs) (y ∷ ys) (suc k) x h g = pair_at R xs ys k x h.1 g

pub none_at :
    {A B : Type 0} (R : A → B → Type 0) (xs : List A) (ys : List B) (k : ℕ) → Pairwise R xs ys → slice_get xs k ≡ None → slice_get ys k ≡ None
none_at R [] [] k h g = refl
none_at R [] (y ∷ ys) k h g = absurd h
none_at R (x ∷ xs) [] k h g = absurd h
none_at R (x ∷ xs) (y ∷ ys) zero h g = absurd (cc)
none_at R (x ∷ xs) (y ∷ ys) (suc k) h g = none_at R xs ys k h.1 g

pub first_pair :
    {A B : Type 0} (R : A → B → Type 0) (xs : List A) (ys : List B) (x : A) → Pairwise R xs ys → first_of xs ≡ Some x
    → (y : B) × (first_of ys ≡ Some y) × R x y
first_pair R [] ys x h g = absurd (cc)
first_pair R (z ∷ xs) [] x h g = absurd h
first_pair {A} {B} R (z ∷ xs) (y ∷ ys) x h g =
    let same : z ≡ x = cc in (y, refl, subst (λ (z : A). R z y) same h.0)

pub no_first :
    {A B : Type 0} (R : A → B → Type 0) (xs : List A) (ys : List B) → Pairwise R xs ys → first_of xs ≡ None → first_of ys ≡ None
no_first R [] [] h g = refl
no_first R [] (y ∷ ys) h g = absurd h
no_first R (x ∷ xs) ys h g = absurd (cc)

pub same_length : {A B : Type 0} (R : A → B → Type 0) (xs : List A) (ys : List B) → Pairwise R xs ys → length xs ≡ length ys
same_length R [] [] h = refl
same_length R [] (y ∷ ys) h = absurd h
same_length R (x ∷ xs) [] h = absurd h
same_length R (x ∷ xs) (y ∷ ys) h = ap suc (same_length R xs ys h.1)

-- ---- Lists of which one part is empty

pub parts_chosen :
    {P B : Type 0} (chosen : P → Bool) (part : P → B) (xs ys : List P)
    → map part (filter chosen (xs ++ ys)) ≡ map part (filter chosen xs) ++ map part (filter chosen ys)
parts_chosen chosen part [] ys = refl
parts_chosen chosen part (x ∷ xs) ys =
    elim (chosen x) as
    (λ b. map part (cond b (x ∷ filter chosen (xs ++ ys)) (filter chosen (xs ++ ys)))
    ≡ map part (cond b (x ∷ filter chosen xs) (filter chosen xs)) ++ map part (filter chosen ys)) [
      | true ↦ ap (λ zs. part x ∷ zs) (parts_chosen chosen part xs ys)
      | false ↦ parts_chosen chosen part xs ys
    ]

pub first_part_chosen :
    {P B : Type 0} (chosen : P → Bool) (part : P → B) (xs ys : List P) → map part (filter chosen ys) ≡ []
    → map part (filter chosen (xs ++ ys)) ≡ map part (filter chosen xs)
first_part_chosen chosen part xs ys none =
    parts_chosen chosen part xs ys ∙ ap (λ zs. map part (filter chosen xs) ++ zs) none ∙ append-nil (map part (filter chosen xs))

pub second_part_chosen :
    {P B : Type 0} (chosen : P → Bool) (part : P → B) (xs ys : List P) → map part (filter chosen xs) ≡ []
    → map part (filter chosen (xs ++ ys)) ≡ map part (filter chosen ys)
second_part_chosen chosen part xs ys none =
    parts_chosen chosen part xs ys ∙ ap (λ zs. zs ++ map part (filter chosen ys)) none

-- The elements of a list by their indexes.
use Rattle.fb_types.proofs.Common.{◌≡◌, ℕ, zero, suc, ◌<◌, ◌+◌, List, [], ◌∷◌, ◌++◌, length, Some, Contains, refl, ◌∙◌, ap, subst, inl, inr, arith, slice_get, All, slice_get_within, get_or_from_slice_get}
use Rattle.fb_types.proofs.lemmas.lists.Elements.{Contains-nil, Contains-cons_cases, Contains-here, Contains-there}

pub element_at : {A : Type 0} (xs : List A) (k : ℕ) → k < length xs → (x : A) × (slice_get xs k ≡ Some x)
element_at [] k h = absurd (omega (arith, h))
element_at (x ∷ xs) zero h = (x, refl)
element_at (x ∷ xs) (suc k) h = element_at xs k (omega (arith, h))

-- an element has an index
pub index_of_element : {A : Type 0} (xs : List A) (x : A) → Contains xs x → (k : ℕ) × (slice_get xs k ≡ Some x)
index_of_element [] x c = absurd (Contains-nil x c)
index_of_element (y ∷ ys) x c =
    elim (Contains-cons_cases y ys x c) [
      | inl e ↦ (0, ap (λ z. Some z) e)
      | inr rest ↦ let r = index_of_element ys x rest in (suc r.0, r.1)
    ]

pub element_of_index : {A : Type 0} (xs : List A) (k : ℕ) (x : A) → slice_get xs k ≡ Some x → Contains xs x
element_of_index [] k x h = absurd (cc)
element_of_index {A} (y ∷ ys) zero x h = let e : y ≡ x = cc in subst (λ (z : A). Contains (y ∷ ys) z) e (Contains-here y ys)
element_of_index (y ∷ ys) (suc k) x h = Contains-there y ys x (element_of_index ys k x h)

pub all_at : {A : Type 0} (P : A → Type 0) (xs : List A) (i : ℕ) (x : A) → All P xs → slice_get xs i ≡ Some x → P x
all_at {A} P xs i x all h =
    subst P (get_or_from_slice_get xs i x x h) (all i x (slice_get_within xs i x h))

-- ---- Lists that are appended

pub slice_get-append_left : {A : Type 0} (xs ys : List A) (k : ℕ) (x : A) → slice_get xs k ≡ Some x → slice_get (xs ++ ys) k ≡ Some x
slice_get-append_left [] ys k x h = absurd (cc)
slice_get-append_left (z ∷ zs) ys zero x h = h
slice_get-append_left (z ∷ zs) ys (suc k) x h = slice_get-append_left zs ys k x h

pub slice_get-append_here : {A : Type 0} (xs : List A) (y : A) → slice_get (xs ++ y ∷ []) (length xs) ≡ Some y
slice_get-append_here [] y = refl
slice_get-append_here (x ∷ xs) y = slice_get-append_here xs y

pub slice_get-after : {A : Type 0} (xs ys : List A) (k : ℕ) → slice_get (xs ++ ys) (length xs + k) ≡ slice_get ys k
slice_get-after [] ys k = let e : 0 + k ≡ k = omega arith in ap (slice_get ys) e
slice_get-after (x ∷ xs) ys k =
    let e : length (x ∷ xs) + k ≡ suc (length xs + k) = omega arith in
    ap (slice_get (x ∷ (xs ++ ys))) e ∙ slice_get-after xs ys k

-- what holds at each index holds after one more element
pub slice_get-push :
    {A : Type 0} (P : ℕ → A → Type 0) (xs : List A) (y : A) → ((k : ℕ) (x : A) → slice_get xs k ≡ Some x → P k x) → P (length xs) y
    → (k : ℕ) (x : A) → slice_get (xs ++ y ∷ []) k ≡ Some x → P k x
slice_get-push {A} P [] y old new zero x h = let e : y ≡ x = cc in subst (λ (z : A). P 0 z) e new
slice_get-push P [] y old new (suc k) x h = absurd (cc)
slice_get-push {A} P (z ∷ zs) y old new zero x h = old zero x h
slice_get-push {A} P (z ∷ zs) y old new (suc k) x h =
    slice_get-push (λ k x. P (suc k) x) zs y (λ k x h. old (suc k) x h) new k x h

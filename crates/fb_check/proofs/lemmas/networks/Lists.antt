-- Lists by their indexes: tests of elements, and lists one after another.
use Rattle.fb_types.proofs.Common.{◌≡◌, ℕ, zero, suc, ◌+◌, ◌<◌, Bool, true, false, ◌||◌, List, [], ◌∷◌, ◌++◌, get_or, length, take, Some, None, refl, sym, ◌∙◌, ap, inl, inr, arith, flat_map, slice_get, list_any, true≢false, append-nil, take_more, flat_map-append, slice_get_past}
use Rattle.std.proofs.lemmas.Option.{slice_get_cases}

-- ---- Tests

pub any_at : {A : Type 0} (f : A → Bool) (xs : List A) → list_any f xs ≡ true → (k : ℕ) × (x : A) × (slice_get xs k ≡ Some x) × (f x ≡ true)
any_at f [] h = absurd (true≢false (sym h))
any_at {A} f (x ∷ xs) h =
    elim (f x) as (λ b. f x ≡ b → (b || list_any f xs) ≡ true → (k : ℕ) × (y : A) × (slice_get (x ∷ xs) k ≡ Some y) × (f y ≡ true)) [
      | true ↦ λ e g. (0, x, refl, e)
      | false ↦ λ e g. let r = any_at f xs g in (suc r.0, r.1, r.2, r.3)
    ] refl h

pub any_from : {A : Type 0} (f : A → Bool) (xs : List A) (k : ℕ) (x : A) → slice_get xs k ≡ Some x → f x ≡ true → list_any f xs ≡ true
any_from f [] k x h e = absurd (cc)
any_from {A} f (y ∷ ys) zero x h e = let same : y ≡ x = cc in ap (λ b. b || list_any f ys) (ap f same ∙ e)
any_from f (y ∷ ys) (suc k) x h e =
    elim (f y) as (λ b. (b || list_any f ys) ≡ true) [ true ↦ refl | false ↦ any_from f ys k x h e ]

-- ---- Lists of one length

pub past_both : {A B : Type 0} (xs : List A) (ys : List B) (k : ℕ) → length xs ≡ length ys → slice_get ys k ≡ None → slice_get xs k ≡ None
past_both xs ys k same h =
    elim (slice_get_cases ys k).1 [
      | inl w ↦ absurd (let e = sym h ∙ w.2 in cc)
      | inr w ↦ slice_get_past xs k (omega (arith, w.0))
    ]

-- ---- Lists of elements, one after another

-- the lists of the elements so far, with that of one more
pub flat_more :
    {A B : Type 0} (f : A → List B) (xs : List A) (i : ℕ) (x : A) → i < length xs → x ≡ get_or xs i x
    → flat_map f (take (i + 1) xs) ≡ flat_map f (take i xs) ++ f x
flat_more {A} {B} f xs i x within is =
    let so_far = flat_map f (take i xs) in
    ap (flat_map f) (take_more xs i x within) ∙ flat_map-append f (take i xs) (get_or xs i x ∷ []) ∙ ap (λ (y : A). so_far ++ (f y ++ [])) (sym is)
    ∙ ap (λ (ys : List B). so_far ++ ys) (append-nil (f x))

-- Lists of which each element may fail, read from the front.
use Rattle.fb_types.proofs.Common.{◌≡◌, ℕ, ◌+◌, ◌<◌, ◌≤◌, List, [], ◌∷◌, ◌++◌, length, get_or, map, drop, Option, Some, None, refl, sym, ap, ◌∙◌, append_assoc, append-nil, arith, drop_more}
use Rattle.fb_expect.specs.Lists.{◌>>=◌, each}

-- what was found before, and what is still found
abbrev pub with_front : {B : Type 0} → List B → Option (List B) → Option (List B)
with_front front o = o >>= λ more. Some (front ++ more)

pub front_none : {B : Type 0} (o : Option (List B)) → o ≡ with_front [] o
front_none None = refl
front_none (Some ys) = refl

regroup : {B : Type 0} (front : List B) (y : B) (o : Option (List B)) → with_front front (o >>= λ ys. Some (y ∷ ys)) ≡ with_front (front ++ y ∷ []) o
regroup front y None = refl
regroup {B} front y (Some ys) = ap (λ (zs : List B). Some zs) (sym (append_assoc front (y ∷ []) ys))

pub each-more : {A B : Type 0} (f : A → Option B) (front : List B) (x : A) (xs : List A) (y : B) → f x ≡ Some y → with_front front (each f (x ∷ xs)) ≡ with_front (front ++ y ∷ []) (each f xs)
unfolding each
each-more f front x xs y h = rw h (regroup front y (each f xs))

pub each-fails : {A B : Type 0} (f : A → Option B) (front : List B) (x : A) (xs : List A) → f x ≡ None → with_front front (each f (x ∷ xs)) ≡ None
unfolding each
each-fails f front x xs h = rw h refl

pub each-done : {A B : Type 0} (f : A → Option B) (front : List B) → with_front front (each f []) ≡ Some front
unfolding each
each-done {B} f front = ap (λ (zs : List B). Some zs) (append-nil front)

-- ---- a loop over the elements, whose rest is known

pub more : {A B : Type 0} (f : A → Option B) (front : List B) (x : A) (xs rest : List A) (y : B) (total : Option (List B)) → rest ≡ x ∷ xs → f x ≡ Some y
    → total ≡ with_front front (each f rest) → total ≡ with_front (front ++ y ∷ []) (each f xs)
more f front x xs rest y total split found so_far = rw split at so_far ∙ each-more f front x xs y found

pub fails : {A B : Type 0} (f : A → Option B) (front : List B) (x : A) (xs rest : List A) (total : Option (List B)) → rest ≡ x ∷ xs → f x ≡ None
    → total ≡ with_front front (each f rest) → None ≡ total
fails f front x xs rest total split found so_far = sym (rw split at so_far ∙ each-fails f front x xs found)

pub done : {A B : Type 0} (f : A → Option B) (front : List B) (rest : List A) (total : Option (List B)) → length rest ≤ 0
    → total ≡ with_front front (each f rest) → Some front ≡ total
done f front [] total le so_far = sym (so_far ∙ each-done f front)
done f front (x ∷ xs) total le so_far = absurd (omega arith)

-- ---- a loop over elements that are seen through a function

pub next_seen : {A B : Type 0} (f : A → B) (xs : List A) (i : ℕ) (x : A) → i < length xs → x ≡ get_or xs i x → map f (drop i xs) ≡ f x ∷ map f (drop (i + 1) xs)
next_seen {A} f xs i x lt is = ap (map f) (drop_more xs i x lt ∙ ap (λ (z : A). z ∷ drop (i + 1) xs) (sym is))

-- the same of an element that is copied
pub next_at : {A B : Type 0} (f : A → B) (xs : List A) (i : ℕ) (d : A) → i < length xs → map f (drop i xs) ≡ f (get_or xs i d) ∷ map f (drop (i + 1) xs)
next_at f xs i d lt = ap (map f) (drop_more xs i d lt)

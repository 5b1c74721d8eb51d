-- Elements of lists by their indexes.
use Rattle.fb_types.proofs.Common.{◌≡◌, ℕ, zero, suc, ◌+◌, ◌<◌, Option, Some, None, List, [], ◌∷◌, ◌++◌, length, map, drop, refl, sym, ap, ◌∙◌, arith, slice_get, slice_index_or}

module _ {X : Type 0} where
  pub push_here : (xs : List X) (x : X) (n : ℕ) → length xs ≡ n → slice_get (xs ++ x ∷ []) n ≡ Some x
  push_here [] x zero e = refl
  push_here [] x (suc n) e = absurd (omega arith)
  push_here (y ∷ ys) x zero e = absurd (omega arith)
  push_here (y ∷ ys) x (suc n) e = push_here ys x n (omega arith)

  pub push_before : (xs : List X) (x : X) (n : ℕ) (y : X) → slice_get xs n ≡ Some y → slice_get (xs ++ x ∷ []) n ≡ Some y
  push_before [] x n y e = absurd (let f : None ≡ Some y = e in cc)
  push_before (z ∷ zs) x zero y e = e
  push_before (z ∷ zs) x (suc n) y e = push_before zs x n y e

  pub push_counted : (xs : List X) (x : X) (n : ℕ) → length xs ≡ n → length (xs ++ x ∷ []) ≡ n + 1
  push_counted [] x n e = omega arith
  push_counted (y ∷ ys) x zero e = absurd (omega arith)
  push_counted (y ∷ ys) x (suc n) e = let f = push_counted ys x n (omega arith) in omega arith

  pub has_at : (xs : List X) (n : ℕ) → n < length xs → (x : X) × (slice_get xs n ≡ Some x)
  has_at [] n b = absurd (omega arith)
  has_at (x ∷ xs) zero b = (x, refl)
  has_at (x ∷ xs) (suc n) b = has_at xs n (omega arith)

  pub is_at : (xs : List X) (n : ℕ) (x : X) → slice_get xs n ≡ Some x → n < length xs
  is_at [] n x e = absurd (let f : None ≡ Some x = e in cc)
  is_at (y ∷ ys) zero x e = omega arith
  is_at (y ∷ ys) (suc n) x e = let f = is_at ys n x e in omega arith

  pub one_at : (xs : List X) (n : ℕ) (x y : X) → slice_get xs n ≡ Some x → slice_get xs n ≡ Some y → x ≡ y
  one_at xs n x y e f = let g : Some x ≡ Some y = sym e ∙ f in cc

  pub drop_at : (xs : List X) (n : ℕ) (x : X) → slice_get xs n ≡ Some x → drop n xs ≡ x ∷ drop (n + 1) xs
  drop_at [] n x e = absurd (let f : None ≡ Some x = e in cc)
  drop_at (y ∷ ys) zero x e = let f : y ≡ x = cc in rw f refl
  drop_at (y ∷ ys) (suc n) x e = let f : suc n + 1 ≡ suc (n + 1) = omega arith in rw f (drop_at ys n x e)

  pub drop_none : (xs : List X) (n : ℕ) → slice_get xs n ≡ None → drop n xs ≡ []
  drop_none [] zero e = refl
  drop_none [] (suc n) e = refl
  drop_none (y ∷ ys) zero e = absurd (let f : Some y ≡ None = e in cc)
  drop_none (y ∷ ys) (suc n) e = drop_none ys n e

  pub index_at : (xs : List X) (n : ℕ) (x d : X) → slice_get xs n ≡ Some x → slice_index_or xs n d ≡ x
  index_at [] n x d e = absurd (let f : None ≡ Some x = e in cc)
  index_at (y ∷ ys) zero x d e = let f : y ≡ x = cc in f
  index_at (y ∷ ys) (suc n) x d e = index_at ys n x d e

  -- what is left from an index on begins with the element there
  pub drop_first : (xs : List X) (n : ℕ) (y : X) (ys : List X) → y ∷ ys ≡ drop n xs → (slice_get xs n ≡ Some y) × (ys ≡ drop (n + 1) xs)
  drop_first xs n y ys e = go (slice_get xs n) refl
    where
      go : (o : Option X) → slice_get xs n ≡ o → (slice_get xs n ≡ Some y) × (ys ≡ drop (n + 1) xs)
      go (Some z) q =
          let f : y ∷ ys ≡ z ∷ drop (n + 1) xs = e ∙ drop_at xs n z q in
          let g : z ≡ y = cc in
          let t : ys ≡ drop (n + 1) xs = cc in
          (q ∙ ap Some g, t)
      go None q = absurd (let f : y ∷ ys ≡ [] = e ∙ drop_none xs n q in cc)

  -- the element between two parts
  pub middle_at : (xs ys all : List X) (y : X) → xs ++ y ∷ ys ≡ all → slice_get all (length xs) ≡ Some y
  middle_at xs ys all y e = rw (← e) (here xs)
    where
      here : (zs : List X) → slice_get (zs ++ y ∷ ys) (length zs) ≡ Some y
      here [] = refl
      here (z ∷ zs) = here zs

pub map_has : {X Y : Type 0} (f : X → Y) (xs : List X) (n : ℕ) (y : Y) → slice_get (map f xs) n ≡ Some y → (x : X) × (slice_get xs n ≡ Some x) × (y ≡ f x)
map_has f [] n y e = absurd (let g : None ≡ Some y = e in cc)
map_has f (x ∷ xs) zero y e = let g : y ≡ f x = cc in (x, refl, g)
map_has f (x ∷ xs) (suc n) y e = map_has f xs n y e

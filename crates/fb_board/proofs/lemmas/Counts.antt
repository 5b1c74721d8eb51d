-- Sums and counts over a list, and how they change with one element.
use Rattle.std.proofs.Common.{◌≡◌, ◌≢◌, ℕ, zero, suc, ◌+◌, ◌<◌, ◌≤◌, ◌⊎◌, cond, List, [], ◌∷◌, ◌++◌, length, get_or, set, sum_by, count_by, slice_get, Some, ◌==◌, if◌then◌else◌, nat_lt, Contains, sym, refl, ap, ◌∙◌, inl, inr, ⊎_elim, arith, lt-ltb, le-ltb, eq-eqb, ne_eqb, lt_of_not-le}
use Rattle.std.proofs.lemmas.List.Sums.{sum_by-cons, sum_by-set, sum_by_push}
use Rattle.std.specs.List.{AllZip}
use mathlib.Core.Option.{some, some-injective, some-ne-none}
use mathlib.Core.Logic.{dite}
use native.Mathlib.Decide.{dec_le, ℕ_discrete}
use lib.ListN.{get_elem?}

module _ {A : Type 0} where
  -- what is there is within the list
  pub within : (l : List A) (i : ℕ) (a : A) → get_elem? l i ≡ some a → i < length l
  within [] i a e = absurd (some-ne-none a (sym e))
  within (x ∷ xs) zero a e = omega arith
  within (x ∷ xs) (suc i) a e = let h = within xs i a e in omega arith

  pub get_or_at : (l : List A) (i : ℕ) (a d : A) → get_elem? l i ≡ some a → get_or l i d ≡ a
  get_or_at [] i a d e = absurd (some-ne-none a (sym e))
  get_or_at (x ∷ xs) zero a d e = some-injective x a e
  get_or_at (x ∷ xs) (suc i) a d e = get_or_at xs i a d e

  -- one element changes the sum by its own amount
  pub sum_set : (f : A → ℕ) (l : List A) (i : ℕ) (v w : A) → get_elem? l i ≡ some v → sum_by f (set l i w) + f v ≡ sum_by f l + f w
  sum_set f l i v w e =
      let step = sum_by-set f l i w v (within l i v e) in let was : f (get_or l i v) ≡ f v = ap f (get_or_at l i v v e) in omega arith

  -- nothing changes if f does not distinguish the old from the new
  pub sum_keep : (f : A → ℕ) (l : List A) (i : ℕ) (v w : A) → get_elem? l i ≡ some v → f w ≡ f v → sum_by f (set l i w) ≡ sum_by f l
  sum_keep f l i v w e same = let h = sum_set f l i v w e in omega arith

  -- a sum of sums is the sum of both
  pub sum_split : (f g h : A → ℕ) (l : List A) → ((i : ℕ) (v : A) → get_elem? l i ≡ some v → f v ≡ g v + h v) → sum_by f l ≡ sum_by g l + sum_by h l
  sum_split f g h [] each = refl
  sum_split f g h (x ∷ xs) each =
      let here = each zero x refl in let rest = sum_split f g h xs (λ i v e. each (suc i) v e) in
      let all = sum_by-cons f x xs in let left = sum_by-cons g x xs in let right = sum_by-cons h x xs in omega arith

  -- one element is no more than all
  pub sum_at : (f : A → ℕ) (l : List A) (i : ℕ) (v : A) → get_elem? l i ≡ some v → f v ≤ sum_by f l
  sum_at f [] i v e = absurd (some-ne-none v (sym e))
  sum_at f (x ∷ xs) zero v e = let h : f x ≡ f v = ap f (some-injective x v e) in let a = sum_by-cons f x xs in omega arith
  sum_at f (x ∷ xs) (suc i) v e = let h = sum_at f xs i v e in let a = sum_by-cons f x xs in omega arith

  -- nor are two
  pub sum_two : (f : A → ℕ) (l : List A) (i j : ℕ) (v w : A) → i ≢ j → get_elem? l i ≡ some v → get_elem? l j ≡ some w → f v + f w ≤ sum_by f l
  sum_two f [] i j v w ne a b = absurd (some-ne-none v (sym a))
  sum_two f (x ∷ xs) zero zero v w ne a b = absurd (ne refl)
  sum_two f (x ∷ xs) zero (suc j) v w ne a b =
      let mine : f x ≡ f v = ap f (some-injective x v a) in let theirs = sum_at f xs j w b in let all = sum_by-cons f x xs in omega arith
  sum_two f (x ∷ xs) (suc i) zero v w ne a b =
      let theirs : f x ≡ f w = ap f (some-injective x w b) in let mine = sum_at f xs i v a in let all = sum_by-cons f x xs in omega arith
  sum_two f (x ∷ xs) (suc i) (suc j) v w ne a b =
      let both = sum_two f xs i j v w (λ e. ne (ap suc e)) a b in let all = sum_by-cons f x xs in omega arith

  -- the sum is 0 if each element has 0
  pub sum_none : (f : A → ℕ) (l : List A) → ((i : ℕ) (v : A) → get_elem? l i ≡ some v → f v ≡ 0) → sum_by f l ≡ 0
  sum_none f [] each = refl
  sum_none f (x ∷ xs) each =
      let here = each zero x refl in let rest = sum_none f xs (λ i v e. each (suc i) v e) in let all = sum_by-cons f x xs in omega arith

  -- one element has the sum if each other has 0
  pub sum_sole : (f : A → ℕ) (l : List A) (i : ℕ) (v : A) → get_elem? l i ≡ some v → ((j : ℕ) (w : A) → j ≢ i → get_elem? l j ≡ some w → f w ≡ 0)
      → sum_by f l ≡ f v
  sum_sole f [] i v e others = absurd (some-ne-none v (sym e))
  sum_sole f (x ∷ xs) zero v e others =
      let here : f x ≡ f v = ap f (some-injective x v e) in
      let rest = sum_none f xs (λ j w at. others (suc j) w (λ p. omega arith) at) in let all = sum_by-cons f x xs in omega arith
  sum_sole f (x ∷ xs) (suc i) v e others =
      let here = others zero x (λ p. omega arith) refl in
      let rest = sum_sole f xs i v e (λ j w ne at. others (suc j) w (λ p. ne (omega arith)) at) in let all = sum_by-cons f x xs in omega arith

  -- if the sum is 1, one element has it
  pub find_one : (f : A → ℕ) (l : List A) → sum_by f l ≡ 1 → (i : ℕ) × (v : A) × (get_elem? l i ≡ some v) × (f v ≡ 1)
  find_one f [] e = absurd (omega arith)
  find_one f (x ∷ xs) e = let a = sum_by-cons f x xs in dite (ℕ_discrete (f x) 0)
      (λ none_here. let h = find_one f xs (omega arith) in (suc h.0, h.1, h.2, h.3))
      (λ here. (zero, x, refl, omega arith))

  -- the sum of ones and zeros is at most the length
  pub sum_few : (f : A → ℕ) → ((v : A) → f v ≤ 1) → (l : List A) → sum_by f l ≤ length l
  sum_few f one [] = omega arith
  sum_few f one (x ∷ xs) = let h = one x in let k = sum_few f one xs in let a = sum_by-cons f x xs in omega arith

  -- the two ways in which a list is read
  pub at_from_slice_get : (l : List A) (i : ℕ) (a : A) → slice_get l i ≡ Some a → get_elem? l i ≡ some a
  at_from_slice_get [] i a e = absurd cc
  at_from_slice_get (x ∷ xs) zero a e = let p : x ≡ a = cc in ap some p
  at_from_slice_get (x ∷ xs) (suc i) a e = at_from_slice_get xs i a e

  pub slice_get_along : (l l' : List A) (i i' : ℕ) (a : A) → l ≡ l' → i ≡ i' → slice_get l i ≡ Some a → slice_get l' i' ≡ Some a
  slice_get_along l l' i i' a p q e = (λ j. slice_get (sym p j) (sym q j)) ∙ e

  pub is_there : (l : List A) (i : ℕ) → i < length l → (a : A) × (slice_get l i ≡ Some a)
  is_there [] i h = absurd (omega arith)
  is_there (x ∷ xs) zero h = (x, refl)
  is_there (x ∷ xs) (suc i) h = is_there xs i (omega arith)

  -- what is in a longer list was there before, or is the new element
  pub at_push : (l : List A) (a b : A) (j : ℕ) → get_elem? (l ++ a ∷ []) j ≡ some b → (get_elem? l j ≡ some b) ⊎ ((j ≡ length l) × (a ≡ b))
  at_push [] a b zero e = inr (refl, some-injective a b e)
  at_push [] a b (suc j) e = absurd (some-ne-none b (sym e))
  at_push (x ∷ xs) a b zero e = inl e
  at_push (x ∷ xs) a b (suc j) e = ⊎_elim inl (λ (t : (j ≡ length xs) × (a ≡ b)). inr (ap suc t.0, t.1)) (at_push xs a b j e)

  pub slice_get_push : (l : List A) (a b : A) (j : ℕ) → slice_get (l ++ a ∷ []) j ≡ Some b → (slice_get l j ≡ Some b) ⊎ ((j ≡ length l) × (a ≡ b))
  slice_get_push [] a b zero e = let p : a ≡ b = cc in inr (refl, p)
  slice_get_push [] a b (suc j) e = absurd cc
  slice_get_push (x ∷ xs) a b zero e = inl e
  slice_get_push (x ∷ xs) a b (suc j) e = ⊎_elim inl (λ (t : (j ≡ length xs) × (a ≡ b)). inr (ap suc t.0, t.1)) (slice_get_push xs a b j e)

-- 1 if k is below n, and else 0
abbrev pub below : ℕ → ℕ → ℕ
below k n = if nat_lt k n then 1 else 0

pub below_yes : (k n : ℕ) → k < n → below k n ≡ 1
below_yes k n h = ap (λ b. cond b 1 0) (lt-ltb k n h)

pub below_no : (k n : ℕ) → n ≤ k → below k n ≡ 0
below_no k n h = ap (λ b. cond b 1 0) (le-ltb k n h)

pub below_some : (k n : ℕ) → 1 ≤ below k n → k < n
below_some k n h = dite (dec_le n k) (λ le. let z = below_no k n le in absurd (omega arith)) (λ no. lt_of_not-le no)

pub below_one : (k n : ℕ) → below k n ≤ 1
below_one k n = dite (dec_le n k) (λ le. let z = below_no k n le in omega arith) (λ no. let z = below_yes k n (lt_of_not-le no) in omega arith)

-- how often k is in the list
abbrev pub times : ℕ → List ℕ → ℕ
times k xs = count_by (λ x. x == k) xs

-- 1 if x is k, and else 0
abbrev pub hit : ℕ → ℕ → ℕ
hit k x = if x == k then 1 else 0

pub hit_here : (k : ℕ) → hit k k ≡ 1
hit_here k = ap (λ b. cond b 1 0) (eq-eqb k k refl)

pub hit_else : (k x : ℕ) → x ≢ k → hit k x ≡ 0
hit_else k x ne = ap (λ b. cond b 1 0) (ne_eqb x k ne)

pub times-cons : (k x : ℕ) (xs : List ℕ) → times k (x ∷ xs) ≡ hit k x + times k xs
times-cons k x xs = sum_by-cons (hit k) x xs

pub times_push : (k : ℕ) (xs : List ℕ) (x : ℕ) → times k (xs ++ x ∷ []) ≡ times k xs + hit k x
times_push k xs x = sum_by_push (hit k) xs x

pub times_some : (k : ℕ) (xs : List ℕ) → 1 ≤ times k xs → Contains xs k
times_some k [] h = absurd (omega arith)
times_some k (x ∷ xs) h = let a = times-cons k x xs in dite (ℕ_discrete x k)
    (λ same. (zero, omega arith, same))
    (λ ne. let b = hit_else k x ne in let c = times_some k xs (omega arith) in (suc c.0, (let d = c.1 in omega arith), c.2))

times_from : (k : ℕ) (xs : List ℕ) (i : ℕ) → i < length xs → get_or xs i k ≡ k → 1 ≤ times k xs
times_from k [] i h e = absurd (omega arith)
times_from k (x ∷ xs) zero h e = let a = times-cons k x xs in let b : hit k x ≡ hit k k = ap (hit k) e in let c = hit_here k in omega arith
times_from k (x ∷ xs) (suc i) h e = let a = times-cons k x xs in let b = times_from k xs i (omega arith) e in omega arith

pub times_contained : (k : ℕ) (xs : List ℕ) → Contains xs k → 1 ≤ times k xs
times_contained k xs c = times_from k xs c.0 c.1 c.2

pub times_none : (k : ℕ) (xs : List ℕ) → times k xs ≡ 0 → ¬ Contains xs k
times_none k xs z c = let h = times_contained k xs c in omega arith

-- one number more is below n + 1
pub below_suc : (k n : ℕ) → below k n + hit k n ≡ below k (n + 1)
below_suc k n = dite (ℕ_discrete n k)
    (λ e. let a = below_no k n (omega arith) in let b = below_yes k (n + 1) (omega arith) in let c : hit k n ≡ 1 = ap (λ b. cond b 1 0) (eq-eqb n k e) in omega arith)
    (λ ne. let c = hit_else k n ne in dite (dec_le n k)
    (λ le. let a = below_no k n le in let b = below_no k (n + 1) (omega arith) in omega arith)
    (λ no. let a = below_yes k n (lt_of_not-le no) in let h : k < n = lt_of_not-le no in let b = below_yes k (n + 1) (omega arith) in omega arith))

-- what holds index by index of two lists of one length
pub zips : {A B : Type 0} (R : A → B → Type 0) (xs : List A) (ys : List B) → length ys ≡ length xs
    → ((k : ℕ) (x : A) (y : B) → slice_get xs k ≡ Some x → get_elem? ys k ≡ some y → R x y) → AllZip R xs ys
zips R [] [] e each = tt
zips R [] (y ∷ ys) e each = absurd (omega arith)
zips R (x ∷ xs) [] e each = absurd (omega arith)
zips R (x ∷ xs) (y ∷ ys) e each = (each zero x y refl refl, zips R xs ys (omega arith) (λ k a b p q. each (suc k) a b p q))

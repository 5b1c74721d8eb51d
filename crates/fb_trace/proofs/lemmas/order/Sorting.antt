-- Lists that rise, their parts that tie, and what these parts settle.
use Rattle.fb_types.proofs.Common.{◌≡◌, ℕ, suc, ◌<◌, ◌≤◌, ◌⊎◌, Bool, true, false, cond, not, ◌&&◌, List, [], ◌∷◌, ◌++◌, length, get_or, refl, sym, ap, ◌∙◌, subst, inl, inr, ⊎_elim, arith, cases_eq, cases_lt, cond-true, cond-false, is_lt, nat_cmp, Less, Equal, Greater, Each}
use Rattle.std.proofs.Common.{filter}
use Rattle.std.proofs.lemmas.Bool.{cond_both}
use Rattle.std.specs.Cmp.{nat_cmp_is}
use Rattle.std.specs.List.Sorted.{ties, IsNonDecreasingBy}
use Rattle.fb_types.proofs.lemmas.lists.EachLaws.{each_map, each_append}
use Rattle.fb_trace.specs.Merging.{Rises}

module _ {X : Type 0} where
  pub filter_in : (p : X → Bool) (x : X) (xs : List X) → p x ≡ true → filter p (x ∷ xs) ≡ x ∷ filter p xs
  filter_in p x xs e = cond-true (p x) _ _ e

  pub filter_out : (p : X → Bool) (x : X) (xs : List X) → p x ≡ false → filter p (x ∷ xs) ≡ filter p xs
  filter_out p x xs e = cond-false (p x) _ _ e

  pub filter_all : (p : X → Bool) (xs : List X) → Each (λ x. p x ≡ true) xs → filter p xs ≡ xs
  filter_all p [] h = refl
  filter_all p (x ∷ xs) h = filter_in p x xs h.0 ∙ ap (λ z. x ∷ z) (filter_all p xs h.1)

  pub filter_nothing : (p : X → Bool) (xs : List X) → Each (λ x. p x ≡ false) xs → filter p xs ≡ []
  filter_nothing p [] h = refl
  filter_nothing p (x ∷ xs) h = filter_out p x xs h.0 ∙ filter_nothing p xs h.1

  pub filter_joined : (p : X → Bool) (xs ys : List X) → filter p (xs ++ ys) ≡ filter p xs ++ filter p ys
  filter_joined p [] ys = refl
  filter_joined p (x ∷ xs) ys = step (p x) _ _ _ (filter_joined p xs ys)
    where
      step : (b : Bool) (f g h : List X) → f ≡ g ++ h → cond b (x ∷ f) f ≡ cond b (x ∷ g) g ++ h
      step true f g h e = ap (λ z. x ∷ z) e
      step false f g h e = e

  pub filter_swap : (p q : X → Bool) (xs : List X) → filter p (filter q xs) ≡ filter q (filter p xs)
  filter_swap p q [] = refl
  filter_swap p q (x ∷ xs) = step (p x) (q x) refl refl (filter_swap p q xs)
    where
      step : (a b : Bool) → p x ≡ a → q x ≡ b → filter p (filter q xs) ≡ filter q (filter p xs) → filter p (filter q (x ∷ xs)) ≡ filter q (filter p (x ∷ xs))
      step true true e f h =
          ap (filter p) (filter_in q x xs f) ∙ filter_in p x _ e ∙ ap (λ z. x ∷ z) h ∙ sym (filter_in q x _ f) ∙ sym (ap (filter q) (filter_in p x xs e))
      step true false e f h =
          ap (filter p) (filter_out q x xs f) ∙ h ∙ sym (filter_out q x _ f) ∙ sym (ap (filter q) (filter_in p x xs e))
      step false true e f h =
          ap (filter p) (filter_in q x xs f) ∙ filter_out p x _ e ∙ h ∙ sym (ap (filter q) (filter_out p x xs e))
      step false false e f h =
          ap (filter p) (filter_out q x xs f) ∙ h ∙ sym (ap (filter q) (filter_out p x xs e))

  pub each_kept : (P : X → Type 0) (p : X → Bool) (xs : List X) → Each P xs → Each P (filter p xs)
  each_kept P p [] h = tt
  each_kept P p (x ∷ xs) h = let k = each_kept P p xs h.1 in cond_both (p x) (x ∷ filter p xs) (filter p xs) (Each P) (λ e. (h.0, k)) (λ e. k)

  same_head : (x y : X) (xs ys : List X) → x ∷ xs ≡ y ∷ ys → x ≡ y
  same_head x y xs ys e = cc

  same_tail : (x y : X) (xs ys : List X) → x ∷ xs ≡ y ∷ ys → xs ≡ ys
  same_tail x y xs ys e = cc

  nil_cons : (x : X) (xs : List X) → [] ≡ x ∷ xs → ⊥
  nil_cons x xs e = cc

module _ {X : Type 0} (n : X → ℕ) where
  pub rises_kept : (p : X → Bool) (xs : List X) → Rises n xs → Rises n (filter p xs)
  rises_kept p [] h = tt
  rises_kept p (x ∷ xs) h =
      let k = rises_kept p xs h.1 in cond_both (p x) (x ∷ filter p xs) (filter p xs) (Rises n) (λ e. (each_kept (λ y. n x ≤ n y) p xs h.0, k)) (λ e. k)

  pub rises_append : (xs ys : List X) → Rises n xs → Rises n ys → Each (λ x. Each (λ y. n x ≤ n y) ys) xs → Rises n (xs ++ ys)
  rises_append [] ys h g a = g
  rises_append (x ∷ xs) ys h g a = (each_append (λ y. n x ≤ n y) xs ys h.0 a.0, rises_append xs ys h.1 g a.1)

  rises_rest : (x : X) (l : List X) (b : Bool) → Rises n (cond b (x ∷ l) l) → Rises n l
  rises_rest x l true h = h.1
  rises_rest x l false h = h

  later_of : (x : X) (xs : List X) → ((k : ℕ) → k < length xs → n x ≤ n (get_or xs k x)) → Each (λ y. n x ≤ n y) xs
  later_of x [] h = tt
  later_of x (y ∷ ys) h = (h 0 (omega arith), later_of x ys (λ k b. h (suc k) (omega arith)))

  -- from the form by indexes
  pub rises_of : (xs : List X) → IsNonDecreasingBy n xs → Rises n xs
  rises_of [] h = tt
  rises_of (x ∷ xs) h =
      (later_of x xs (λ k b. h 0 (suc k) x (omega arith) (omega arith)), rises_of xs (λ i j d a b. h (suc i) (suc j) d (omega arith) (omega arith)))

  abbrev pub tie : X → X → Bool
  tie = ties (λ x y. is_lt (nat_cmp (n x) (n y)))

  not_less : (a b : ℕ) → b ≤ a → is_lt (nat_cmp a b) ≡ false
  not_less a b h =
      ⊎_elim (λ (e : a ≡ b). sym (ap is_lt (nat_cmp_is a b Equal e))) (λ (d : a ≡ b → ⊥). sym (ap is_lt (nat_cmp_is a b Greater (⊎_elim (λ (l : b < a). l) (λ (g : a ≤ b). absurd (d (omega arith))) (cases_lt b a))))) (cases_eq a b)

  pub tie_same : (x y : X) → n x ≡ n y → tie x y ≡ true
  tie_same x y e = λ i. not (not_less (n x) (n y) (omega arith) i) && not (not_less (n y) (n x) (omega arith) i)

  pub tie_less : (x y : X) → n x < n y → tie x y ≡ false
  tie_less x y l = λ i. not (is_lt (sym (nat_cmp_is (n x) (n y) Less l) i)) && not (is_lt (nat_cmp (n y) (n x)))

  pub tie_more : (x y : X) → n y < n x → tie x y ≡ false
  tie_more x y l =
      (λ i. not (not_less (n x) (n y) (omega arith) i) && not (is_lt (sym (nat_cmp_is (n y) (n x) Less l) i)))

  pub tie_apart : (x y : X) → (n x ≡ n y → ⊥) → tie x y ≡ false
  tie_apart x y d = ⊎_elim (λ (l : n x < n y). tie_less x y l) (λ (g : n y ≤ n x). tie_more x y (⊎_elim (λ (m : n y < n x). m) (λ (k : n x ≤ n y). absurd (d (omega arith))) (cases_lt (n y) (n x)))) (cases_lt (n x) (n y))

  none_tie : (x y : X) (ys : List X) → n x < n y → Each (λ z. n y ≤ n z) ys → filter (tie x) (y ∷ ys) ≡ []
  none_tie x y ys l h = filter_nothing (tie x) (y ∷ ys) (tie_less x y l, each_map (λ z. n y ≤ n z) (λ z. tie x z ≡ false) ys (λ z (m : n y ≤ n z). tie_less x z (omega arith)) h)

  -- two lists that rise are the same if their parts that tie are
  pub same_of : (us vs : List X) → Rises n us → Rises n vs → ((x : X) → filter (tie x) us ≡ filter (tie x) vs) → us ≡ vs
  same_of [] [] a b h = refl
  same_of [] (v ∷ vs) a b h = absurd (nil_cons _ _ (h v ∙ filter_in (tie v) v vs (tie_same v v refl)))
  same_of (u ∷ us) [] a b h = absurd (nil_cons _ _ (sym (h u) ∙ filter_in (tie u) u us (tie_same u u refl)))
  same_of (u ∷ us) (v ∷ vs) a b h =
      ⊎_elim
      (λ (e : n u ≡ n v).
      let f : u ∷ filter (tie u) us ≡ v ∷ filter (tie u) vs = sym (filter_in (tie u) u us (tie_same u u refl)) ∙ h u ∙ filter_in (tie u) v vs (tie_same u v e) in
      let g : u ≡ v = same_head _ _ _ _ f in
      let t : us ≡ vs = same_of us vs a.1 b.1 (λ x.
      ⊎_elim
      (λ (d : n x ≡ n u). same_tail _ _ _ _ (sym (filter_in (tie x) u us (tie_same x u d)) ∙ h x ∙ filter_in (tie x) v vs (tie_same x v (d ∙ e))))
      (λ (d : n x ≡ n u → ⊥). sym (filter_out (tie x) u us (tie_apart x u d)) ∙ h x ∙ filter_out (tie x) v vs (tie_apart x v (λ c. d (c ∙ sym e))))
      (cases_eq (n x) (n u))) in
      cc)
      (λ (d : n u ≡ n v → ⊥).
      ⊎_elim
      (λ (l : n u < n v). absurd (nil_cons _ _ (sym (none_tie u v vs l b.0) ∙ sym (h u) ∙ filter_in (tie u) u us (tie_same u u refl))))
      (λ (g : n v ≤ n u).
      let l : n v < n u = ⊎_elim (λ (m : n v < n u). m) (λ (k : n u ≤ n v). absurd (d (omega arith))) (cases_lt (n v) (n u)) in
      absurd (nil_cons _ _ (sym (none_tie v u us l a.0) ∙ h v ∙ filter_in (tie v) v vs (tie_same v v refl))))
      (cases_lt (n u) (n v)))
      (cases_eq (n u) (n v))

module _ {X : Type 0} (n m : X → ℕ) where
  -- by n, then m
  abbrev pub Before : X → X → Type 0
  Before x y = (n x < n y) ⊎ ((n x ≡ n y) × (m x ≤ m y))

  abbrev pub InOrder : List X → Type 0
  InOrder [] = Unit {0}
  InOrder (x ∷ xs) = Each (Before x) xs × InOrder xs

  before_all : (y : X) (zs : List X) → Each (λ z. n y ≤ n z) zs → Each (λ z. m y ≤ m z) (filter (tie n y) zs) → Each (Before y) zs
  before_all y [] a h = tt
  before_all y (z ∷ zs) a h =
      ⊎_elim
      (λ (e : n y ≡ n z). let g : Each (λ z. m y ≤ m z) (z ∷ filter (tie n y) zs) = subst (Each (λ z. m y ≤ m z)) (filter_in (tie n y) z zs (tie_same n y z e)) h in
      (inr (e, g.0), before_all y zs a.1 g.1))
      (λ (d : n y ≡ n z → ⊥).
      let l : n y < n z = ⊎_elim (λ (k : n y < n z). k) (λ (k : n z ≤ n y). let q : n y ≤ n z = a.0 in absurd (d (omega arith))) (cases_lt (n y) (n z)) in
      (inl l, before_all y zs a.1 (subst (Each (λ z. m y ≤ m z)) (filter_out (tie n y) z zs (tie_apart n y z d)) h)))
      (cases_eq (n y) (n z))

  -- a list that rises by n, and whose parts that tie rise by m, is in order
  pub order_of : (ys : List X) → Rises n ys → ((x : X) → Rises m (filter (tie n x) ys)) → InOrder ys
  order_of [] a h = tt
  order_of (y ∷ ys) a h = (
    before_all y ys a.0 (subst (Rises m) (filter_in (tie n y) y ys (tie_same n y y refl)) (h y)).0,
    order_of ys a.1 (λ x. rises_rest m y (filter (tie n x) ys) (tie n x y) (h x)),
  )

-- What lists put under keys, and what stable sorting by keys leaves of that.
use Rattle.fb_types.proofs.Common.{◌≡◌, ℕ, suc, ◌<◌, ◌≤◌, ◌⊎◌, Bool, true, false, not, ◌&&◌, Option, Some, None, List, [], ◌∷◌, length, map, get_or, refl, sym, ap, ◌∙◌, inl, inr, ⊎_elim, arith, if◌then◌else◌, is_lt, cond-true, cond-false, tied_itself, key_cmp, Precedes, same_key, or_else, found, Each}
use Rattle.fb_types.specs.declared.key.Key.{Key}
use Rattle.std.proofs.Common.{filter}
use Rattle.std.specs.Cmp.{IsStrictWeakOrder}
use Rattle.std.specs.List.Sorted.{ties, IsSortedBy, IsStableBy}
use Rattle.std.proofs.lemmas.List.Sorted.{sorted_far}
use Rattle.fb_types.proofs.lemmas.events.KeyLaws.{key_cmp_total}
use Rattle.fb_types.proofs.lemmas.lists.Lookups.{or_else_none, same_cases}
use Rattle.fb_link.specs.Exchanges.{KeysRise}

module _ {X : Type 0} (key : X → Key) where
  abbrev pairs : List X → List (Key × X)
  pairs xs = map (λ x. (key x, x)) xs

  unlike : (k : Key) (x : X) (o : Option X) → same_key (key x) k ≡ false → or_else o (if same_key (key x) k then Some x else None) ≡ o
  unlike k x o h = ap (λ b. or_else o (if b then Some x else None)) h ∙ or_else_none o

  pub found_none : (k : Key) (xs : List X) → Each (λ x. same_key (key x) k ≡ false) xs → found k (pairs xs) ≡ None
  found_none k [] h = refl
  found_none k (x ∷ xs) h = unlike k x (found k (pairs xs)) h.0 ∙ found_none k xs h.1

  -- elements under other keys may be left out
  pub found_kept : (k : Key) (p : X → Bool) (xs : List X) → Each (λ x. p x ≡ false → same_key (key x) k ≡ false) xs → found k (pairs xs) ≡ found k (pairs (filter p xs))
  found_kept k p [] h = refl
  found_kept k p (x ∷ xs) h = go (p x) refl (found_kept k p xs h.1)
    where
      go : (b : Bool) → p x ≡ b → found k (pairs xs) ≡ found k (pairs (filter p xs)) → found k (pairs (x ∷ xs)) ≡ found k (pairs (filter p (x ∷ xs)))
      go true e rest =
          ap (λ o. or_else o (if same_key (key x) k then Some x else None)) rest ∙ ap (λ z. found k (pairs z)) (sym (cond-true (p x) (x ∷ filter p xs) (filter p xs) e))
      go false e rest =
          unlike k x (found k (pairs xs)) (h.0 e) ∙ rest ∙ ap (λ z. found k (pairs z)) (sym (cond-false (p x) (x ∷ filter p xs) (filter p xs) e))

  -- one of the elements has the key, or none
  has_key : (P : X → Type 0) (k : Key) (xs : List X) → Each P xs → ((x : X) × P x × (key x ≡ k)) ⊎ Each (λ x. same_key (key x) k ≡ false) xs
  has_key P k [] h = inr tt
  has_key P k (x ∷ xs) h =
      ⊎_elim (λ e. inl (x, h.0, e)) (λ n. ⊎_elim (λ y. inl y) (λ r. inr (n, r)) (has_key P k xs h.1)) (same_cases (key x) k)

  -- the test of the sort is the order of the keys, for these elements
  module _ (lt : X → X → Bool) (P : X → Type 0) (agrees : (x y : X) → P x → P y → lt x y ≡ is_lt (key_cmp (key x) (key y))) where
    not_less : (x y : X) → P x → P y → key x ≡ key y → lt x y ≡ false
    not_less x y p q e = agrees x y p q ∙ ap (λ z. is_lt (key_cmp z (key y))) e ∙ ap is_lt (tied_itself key_cmp_total (key y))

    tied : (x y : X) → P x → P y → key x ≡ key y → ties lt x y ≡ true
    tied x y p q e = ap (λ b. not b && not (lt y x)) (not_less x y p q e) ∙ ap not (not_less y x q p (sym e))

    other_key : (k : Key) (x : X) → P x → key x ≡ k → (y : X) → P y → ties lt x y ≡ false → same_key (key y) k ≡ false
    other_key k x p e y q n =
        ⊎_elim (λ f. absurd (let t : ties lt x y ≡ true = tied x y p q (e ∙ sym f) in let w : true ≡ false = sym t ∙ n in cc)) (λ f. f) (same_cases (key y) k)

    others : (k : Key) (x : X) → P x → key x ≡ k → (ys : List X) → Each P ys → Each (λ y. ties lt x y ≡ false → same_key (key y) k ≡ false) ys
    others k x p e [] h = tt
    others k x p e (y ∷ ys) h = (other_key k x p e y h.0, others k x p e ys h.1)

    -- a stable sort leaves the last under each key
    pub found_stable : (xs ys : List X) → Each P xs → Each P ys → IsStableBy lt xs ys → (k : Key) → found k (pairs ys) ≡ found k (pairs xs)
    found_stable xs ys h g stable k =
        ⊎_elim by_one (λ a. ⊎_elim by_one (λ b. found_none k ys b ∙ sym (found_none k xs a)) (has_key P k ys g)) (has_key P k xs h)
      where
        by_one : (x : X) × P x × (key x ≡ k) → found k (pairs ys) ≡ found k (pairs xs)
        by_one w =
            found_kept k (ties lt w.0) ys (others k w.0 w.1 w.2 ys g) ∙ ap (λ z. found k (pairs z)) (stable w.0)
            ∙ sym (found_kept k (ties lt w.0) xs (others k w.0 w.1 w.2 xs h))

    later_keys : (x : X) (ys : List X) → P x → Each P ys → ((j : ℕ) → j < length ys → lt (get_or ys j x) x ≡ false) → Each (λ y. Precedes (key y) (key x) → ⊥) ys
    later_keys x [] p h far = tt
    later_keys x (y ∷ ys) p h far = (
      λ b. let f : lt y x ≡ false = far 0 (omega arith) in let t : lt y x ≡ true = agrees y x h.0 p ∙ ap is_lt b in let w : true ≡ false = sym t ∙ f in cc,
      later_keys x ys p h.1 (λ j b. far (suc j) (omega arith)),
    )

    rise_of : (ys : List X) → Each P ys → ((i j : ℕ) (d : X) → i ≤ j → j < length ys → lt (get_or ys j d) (get_or ys i d) ≡ false) → KeysRise key ys
    rise_of [] h far = tt
    rise_of (y ∷ ys) h far = (
      later_keys y ys h.0 h.1 (λ j b. far 0 (suc j) y (omega arith) (omega arith)),
      rise_of ys h.1 (λ i j d a b. far (suc i) (suc j) d (omega arith) (omega arith)),
    )

    -- and it puts them in order
    pub keys_rise : IsStrictWeakOrder lt → (ys : List X) → Each P ys → IsSortedBy lt ys → KeysRise key ys
    keys_rise order ys h sorted = rise_of ys h (λ i j d a b. sorted_far lt order ys sorted i j d a b)

-- The messages of all outboxes: under a key is what the outbox of its sender has.
use Rattle.fb_types.proofs.Common.{◌≡◌, ℕ, zero, suc, Option, Some, None, List, [], ◌∷◌, refl, sym, ap, ◌∙◌, arith, flat_map, slice_get, if◌then◌else◌, same_key, or_else, found}
use Rattle.fb_types.specs.declared.key.Key.{Key}
use Rattle.fb_types.proofs.lemmas.events.KeyLaws.{same_key_itself}
use Rattle.fb_types.proofs.lemmas.lists.Lookups.{none_since, or_else_none, or_else_nones, found-append}

module _ {A E : Type 0} (box : A → List (Key × E)) (k : Key) where
  -- what a box has under the key, if there is one
  abbrev pub found_in : Option A → Option E
  found_in None = None
  found_in (Some a) = found k (box a)

  found_nowhere : (boxes : List A) → ((s : ℕ) (a : A) → slice_get boxes s ≡ Some a → found k (box a) ≡ None) → found k (flat_map box boxes) ≡ None
  found_nowhere [] h = refl
  found_nowhere (a ∷ boxes) h =
      found-append k (box a) (flat_map box boxes) ∙ or_else_nones _ _ (found_nowhere boxes (λ s x e. h (suc s) x e)) (h 0 a refl)

  -- If no other box has the key, all boxes together have under it what this one has.
  pub found_at : (q : ℕ) (boxes : List A) → ((s : ℕ) (a : A) → slice_get boxes s ≡ Some a → (s ≡ q → ⊥) → found k (box a) ≡ None)
      → found k (flat_map box boxes) ≡ found_in (slice_get boxes q)
  found_at q [] h = refl
  found_at zero (a ∷ boxes) h =
      found-append k (box a) (flat_map box boxes)
      ∙ ap (λ o. or_else o (found k (box a))) (found_nowhere boxes (λ s x e. h (suc s) x e (λ z. absurd (omega arith))))
  found_at (suc q) (a ∷ boxes) h =
      found-append k (box a) (flat_map box boxes)
      ∙ ap (λ o. or_else (found k (flat_map box boxes)) o) (h 0 a refl (λ z. absurd (omega arith)))
      ∙ or_else_none (found k (flat_map box boxes))
      ∙ found_at q boxes (λ s x e n. h (suc s) x e (λ z. n (omega arith)))

  -- This is so if each box has only messages of its own sender.
  pub found_with_sender : (sender : Key → ℕ) (boxes : List A) → ((s : ℕ) (a : A) → slice_get boxes s ≡ Some a → (e : E) → found k (box a) ≡ Some e → sender k ≡ s)
      → found k (flat_map box boxes) ≡ found_in (slice_get boxes (sender k))
  found_with_sender sender boxes own = found_at (sender k) boxes (λ s a e n. none_since _ (λ v f. n (sym (own s a e v f))))

-- what is in a list is under its key, or something after it is
pub found_some : {E : Type 0} (xs : List (Key × E)) (i : ℕ) (x : Key × E) → slice_get xs i ≡ Some x → (e : E) × (found x.0 xs ≡ Some e)
found_some {E} [] i x h = let g : None ≡ Some x = h in absurd cc
found_some {E} (y ∷ ys) zero x h =
    let f : y ≡ x = cc in
    here (found x.0 ys) refl f
  where
    here : (o : Option E) → found x.0 ys ≡ o → y ≡ x → (e : E) × (found x.0 (y ∷ ys) ≡ Some e)
    here (Some v) s f = (v, rw s refl)
    here None s f = (y.1, rw (s, f, same_key_itself x.0) refl)
found_some {E} (y ∷ ys) (suc i) x h =
    let f = found_some ys i x h in
    (f.0, ap (λ o. or_else o (if same_key y.0 x.0 then Some y.1 else None)) f.1)

-- The lists one after another, and what a stable sort by tick makes of them.
use Rattle.fb_types.proofs.Common.{◌≡◌, ℕ, zero, suc, ◌+◌, ◌<◌, ◌≤◌, ◌==◌, Bool, List, [], ◌∷◌, ◌++◌, length, refl, sym, ap, ◌∙◌, subst, ⊎_elim, arith, All, IsPermutation, Some, append-nil, append_assoc, eq-eqb, ne_eqb, cases_eq, cond-true, cond-false, slice_get, if◌then◌else◌, All-permutation, Global, Each}
use Rattle.fb_types.specs.declared.run.Line.{Line}
use Rattle.std.proofs.Common.{filter, Vec}
use Rattle.std.proofs.lemmas.List.Elements.{All-from_recursion, recursion_from_All}
use Rattle.fb_types.proofs.lemmas.lists.EachLaws.{each_map, each_append}
use Rattle.fb_trace.specs.Merging.{Lists, tick_of, resource_of, Rises, AreRising, flat, AreMerged}
use Rattle.fb_trace.proofs.lemmas.order.Sorting.{filter_all, filter_nothing, filter_joined, filter_swap, rises_kept, rises_append, tie, same_of, order_of}

-- Such lists from a number on, by recursion.
abbrev AreLists : (first : ℕ) → Lists → Type 0
AreLists n [] = Unit {0}
AreLists n (v ∷ vs) = (Each (λ x. resource_of x ≡ n) v.items × Rises tick_of v.items) × AreLists (suc n) vs

-- the lines of a resource among them
abbrev lines_from : (first : ℕ) → Lists → (resource : ℕ) → List Line
lines_from n [] r = []
lines_from n (v ∷ vs) r = if r == n then v.items else lines_from (suc n) vs r

are_lists : (n : ℕ) (vs : Lists) → ((r : ℕ) (v : Vec Line Global) → slice_get vs r ≡ Some v → Each (λ x. resource_of x ≡ n + r) v.items × Rises tick_of v.items) → AreLists n vs
are_lists n [] h = tt
are_lists n (v ∷ vs) h =
    let first = h 0 v refl in (
      (each_map _ _ v.items (λ x (e : resource_of x ≡ n + 0). let w : resource_of x ≡ n = omega arith in w) first.0, first.1),
      are_lists (suc n) vs (λ r w e.
          let later = h (suc r) w e in
          (each_map _ _ w.items (λ x (e : resource_of x ≡ n + suc r). let z : resource_of x ≡ suc n + r = omega arith in z) later.0, later.1)),
    )

rising : (vs : Lists) → AreRising vs → AreLists 0 vs
rising vs h =
    are_lists 0 vs (λ r v e. let x = h r v e in (each_map _ _ v.items (λ y (f : resource_of y ≡ r). let w : resource_of y ≡ 0 + r = omega arith in w) x.mine, x.rise))

part_at : (n : ℕ) (vs : Lists) (r : ℕ) (v : Vec Line Global) → slice_get vs r ≡ Some v → lines_from n vs (n + r) ≡ v.items
part_at n [] r v e = absurd cc
part_at n (u ∷ us) zero v e =
    let same : u ≡ v = cc in
    cond-true (n + 0 == n) u.items (lines_from (suc n) us (n + 0)) (eq-eqb (n + 0) n (omega arith)) ∙ ap (λ z. z.items) same
part_at n (u ∷ us) (suc r) v e =
    let next : n + suc r ≡ suc n + r = omega arith in
    cond-false (n + suc r == n) u.items (lines_from (suc n) us (n + suc r)) (ne_eqb (n + suc r) n (λ c. omega arith))
    ∙ ap (λ z. lines_from (suc n) us z) next ∙ part_at (suc n) us r v e

pub flat_joined : (us vs : Lists) → flat (us ++ vs) ≡ flat us ++ flat vs
flat_joined [] vs = refl
flat_joined (u ∷ us) vs = ap (λ z. u.items ++ z) (flat_joined us vs) ∙ sym (append_assoc u.items (flat us) (flat vs))

pub flat_snoc : (vs : Lists) (v : Vec Line Global) → flat (vs ++ v ∷ []) ≡ flat vs ++ v.items
flat_snoc vs v = flat_joined vs (v ∷ []) ∙ ap (λ z. flat vs ++ z) (append-nil v.items)

flat_above : (n : ℕ) (vs : Lists) → AreLists n vs → Each (λ x. n ≤ resource_of x) (flat vs)
flat_above n [] h = tt
flat_above n (v ∷ vs) h =
    each_append _ v.items (flat vs) (each_map _ _ v.items (λ x (e : resource_of x ≡ n). let w : n ≤ resource_of x = omega arith in w) h.0.0)
    (each_map _ _ (flat vs) (λ x (e : suc n ≤ resource_of x). let w : n ≤ resource_of x = omega arith in w) (flat_above (suc n) vs h.1))

flat_below : (n : ℕ) (vs : Lists) → AreLists n vs → Each (λ x. resource_of x < n + length vs) (flat vs)
flat_below n [] h = tt
flat_below n (v ∷ vs) h =
    each_append _ v.items (flat vs) (each_map _ _ v.items (λ x (e : resource_of x ≡ n). let w : resource_of x < n + suc (length vs) = omega arith in w) h.0.0)
    (each_map _ _ (flat vs) (λ x (e : resource_of x < suc n + length vs). let w : resource_of x < n + suc (length vs) = omega arith in w) (flat_below (suc n) vs h.1))

level : (n : ℕ) (xs : List Line) → Each (λ x. resource_of x ≡ n) xs → Rises resource_of xs
level n [] h = tt
level n (x ∷ xs) h = let e : resource_of x ≡ n = h.0 in (each_map _ _ xs (λ y (f : resource_of y ≡ n). let w : resource_of x ≤ resource_of y = omega arith in w) h.1, level n xs h.1)

flat_rises : (n : ℕ) (vs : Lists) → AreLists n vs → Rises resource_of (flat vs)
flat_rises n [] h = tt
flat_rises n (v ∷ vs) h =
    rises_append resource_of v.items (flat vs) (level n v.items h.0.0) (flat_rises (suc n) vs h.1)
    (each_map _ _ v.items (λ x (e : resource_of x ≡ n). each_map _ _ (flat vs) (λ y (f : suc n ≤ resource_of y). let w : resource_of x ≤ resource_of y = omega arith in w) (flat_above (suc n) vs h.1)) h.0.0)

flat_part : (n : ℕ) (vs : Lists) (r : ℕ) → AreLists n vs → filter (λ x. resource_of x == r) (flat vs) ≡ lines_from n vs r
flat_part n [] r h = refl
flat_part n (v ∷ vs) r h =
    let p : Line → Bool = λ x. resource_of x == r in
    ⊎_elim
    (λ (e : r ≡ n).
    let here : filter p v.items ≡ v.items = filter_all p v.items (each_map _ _ v.items (λ x (f : resource_of x ≡ n). eq-eqb (resource_of x) r (f ∙ sym e)) h.0.0) in
    let rest : filter p (flat vs) ≡ [] = filter_nothing p (flat vs) (each_map _ _ (flat vs) (λ x (f : suc n ≤ resource_of x). ne_eqb (resource_of x) r (λ c. omega arith)) (flat_above (suc n) vs h.1)) in
    filter_joined p v.items (flat vs) ∙ ap (λ z. z ++ filter p (flat vs)) here ∙ ap (λ z. v.items ++ z) rest ∙ append-nil v.items ∙ sym (cond-true (r == n) v.items (lines_from (suc n) vs r) (eq-eqb r n e)))
    (λ (d : r ≡ n → ⊥).
    let here : filter p v.items ≡ [] = filter_nothing p v.items (each_map _ _ v.items (λ x (f : resource_of x ≡ n). ne_eqb (resource_of x) r (λ c. d (sym c ∙ f))) h.0.0) in
    filter_joined p v.items (flat vs) ∙ ap (λ z. z ++ filter p (flat vs)) here ∙ flat_part (suc n) vs r h.1 ∙ sym (cond-false (r == n) v.items (lines_from (suc n) vs r) (ne_eqb r n d)))
    (cases_eq r n)

parts_rise : (n : ℕ) (vs : Lists) (r : ℕ) → AreLists n vs → Rises tick_of (lines_from n vs r)
parts_rise n [] r h = tt
parts_rise n (v ∷ vs) r h =
    ⊎_elim
    (λ (e : r ≡ n). subst (Rises tick_of) (sym (cond-true (r == n) v.items (lines_from (suc n) vs r) (eq-eqb r n e))) h.0.1)
    (λ (d : r ≡ n → ⊥). subst (Rises tick_of) (sym (cond-false (r == n) v.items (lines_from (suc n) vs r) (ne_eqb r n d))) (parts_rise (suc n) vs r h.1))
    (cases_eq r n)

-- What is sorted by tick, stably, from an order by resources, is merged.
pub merged : (vs : Lists) (ys : List Line) → Rises tick_of ys → ((x : Line) → filter (tie tick_of x) ys ≡ filter (tie tick_of x) (flat vs))
    → IsPermutation (flat vs) ys → AreRising vs → AreMerged vs ys
merged vs ys up stable moved are = record {
  order = order_of tick_of resource_of ys up (λ x. subst (Rises resource_of) (sym (stable x)) (rises_kept resource_of (tie tick_of x) (flat vs) (flat_rises 0 vs h)));
  parts = λ r v e.
      let p : Line → Bool = λ x. resource_of x == r in
      same_of tick_of (filter p ys) (filter p (flat vs)) (rises_kept tick_of p ys up) (subst (Rises tick_of) (sym (flat_part 0 vs r h)) (parts_rise 0 vs r h))
      (λ x. filter_swap (tie tick_of x) p ys ∙ ap (filter p) (stable x) ∙ filter_swap p (tie tick_of x) (flat vs))
      ∙ flat_part 0 vs r h ∙ ap (λ z. lines_from 0 vs z) (let z : r ≡ 0 + r = omega arith in z) ∙ part_at 0 vs r v e;
  counted = recursion_from_All (λ x. resource_of x < length vs) ys
      (All-permutation (λ x. resource_of x < length vs) (flat vs) ys moved
      (All-from_recursion (λ x. resource_of x < length vs) (flat vs)
      (each_map _ _ (flat vs) (λ x (b : resource_of x < 0 + length vs). let w : resource_of x < length vs = omega arith in w) (flat_below 0 vs h))));
}
  where
    h : AreLists 0 vs
    h = rising vs are

flat_all : (P : Line → Type 0) (vs : Lists) → Each (λ v. Each P v.items) vs → Each P (flat vs)
flat_all P [] h = tt
flat_all P (v ∷ vs) h = each_append P v.items (flat vs) h.0 (flat_all P vs h.1)

-- What holds of each line holds of each in another order.
pub kept : (vs : Lists) (ys : List Line) → IsPermutation (flat vs) ys → (P : Line → Type 0) → All (λ v. All P v.items) vs → All P ys
kept vs ys moved P h =
    All-permutation P (flat vs) ys moved
    (All-from_recursion P (flat vs) (flat_all P vs (each_map _ _ vs (λ v a. recursion_from_All P v.items a) (recursion_from_All (λ v. All P v.items) vs h))))

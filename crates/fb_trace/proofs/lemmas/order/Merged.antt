-- Merged lines are, as the system names them, a merge of the definitions.
use Rattle.fb_types.proofs.Common.{◌≡◌, ℕ, zero, suc, ◌<◌, ◌==◌, Bool, true, false, cond, Some, List, [], ◌∷◌, length, map, refl, sym, ap, ◌∙◌, arith, slice_get, Global, Each, line_of, machine, System}
use Rattle.fb_types.specs.declared.run.Line.{Line}
use Rattle.std.proofs.Common.{filter, Vec}
use Rattle.fb_types.specs.Merges as merges
use Rattle.fb_types.specs.States as model
use Rattle.fb_trace.specs.Merging.{Lists, NotAfter, IsInOrder, AreMerged}

filter_map : {X Y : Type 0} (p : Y → Bool) (f : X → Y) (xs : List X) → filter p (map f xs) ≡ map f (filter (λ x. p (f x)) xs)
filter_map p f [] = refl
filter_map {X} {Y} p f (x ∷ xs) = step (p (f x)) (filter p (map f xs)) (filter (λ z. p (f z)) xs) (filter_map p f xs)
  where
    step : (b : Bool) (ys : List Y) (zs : List X) → ys ≡ map f zs → cond b (f x ∷ ys) ys ≡ map f (cond b (x ∷ zs) zs)
    step true ys zs e = ap (λ z. f x ∷ z) e
    step false ys zs e = e

each_over : {X Y : Type 0} (P : X → Type 0) (Q : Y → Type 0) (f : X → Y) (xs : List X) → ((x : X) → P x → Q (f x)) → Each P xs → Each Q (map f xs)
each_over P Q f [] g h = tt
each_over P Q f (x ∷ xs) g h = (g x h.0, each_over P Q f xs g h.1)

module _ (sys : System) (limit : ℕ) where
  order_over : (xs : List Line) → IsInOrder xs → merges.IsInOrder (machine sys limit) (map (line_of sys) xs)
  order_over [] h = tt
  order_over (x ∷ xs) h = (each_over (NotAfter x) _ (line_of sys) xs (λ y n. n) h.0, order_over xs h.1)

  -- of the remaining lists, by names, for those that were merged
  pub is_merge : (lists : Lists) (all : List Line) (named : ℕ → List model.Line) → AreMerged lists all
      → ((r : ℕ) (list : Vec Line Global) → slice_get lists r ≡ Some list → named r ≡ map (line_of sys) list.items)
      → merges.IsMerge (machine sys limit) (length lists) named (map (line_of sys) all)
  is_merge lists all named h same = record {
    order = order_over all h.order;
    parts = λ r b.
        let it = has lists r b in
        filter_map (λ (x : model.Line). x.key.resource == r) (line_of sys) all ∙ ap (map (line_of sys)) (h.parts r it.0 it.1) ∙ sym (same r it.0 it.1);
    counted = each_over _ _ (line_of sys) all (λ x b. b) h.counted;
  }
    where
      has : (vs : Lists) (r : ℕ) → r < length vs → (v : Vec Line Global) × (slice_get vs r ≡ Some v)
      has [] r b = absurd (omega arith)
      has (v ∷ vs) zero b = (v, refl)
      has (v ∷ vs) (suc r) b = has vs r (omega arith)

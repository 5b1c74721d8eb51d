-- The items of a chain, and of a simulation, that stop.
use Rattle.fb_laws.proofs.lemmas.Common.{◌≡◌, ℕ, ◌<◌, ◌⊎◌, Option, Some, List, [], ◌∷◌, ◌++◌, refl, sym, ap, ◌∙◌, subst, inl, inr, ⊎_elim, arith, cases_lt, cases_eq, Key, Machine, Item, Local, Each, end, cut, at, after, Chain, IsLawful, World, TakesLeast, next, Simulates, last, StopsAt, IsCounted}
use Rattle.fb_types.proofs.lemmas.lists.Lookups.{edit_none, without_none, none_some, none_since, or_else_nones}
use Rattle.fb_laws.proofs.lemmas.resources.Chains.{cut_in, cut_out}
use Rattle.fb_laws.proofs.lemmas.takings.NoLesserTick.{Fair}
use Rattle.fb_laws.proofs.lemmas.resources.Global.{least_fair, at_mine, at_other, with_at_same}

module _ (M : Machine) where
  -- an item under this key stops, for this reason
  abbrev pub HasStop : List (Item M) → Key → M.Reason → Type 0
  HasStop [] j q = ⊥
  HasStop (i ∷ is) j q = ((i.key ≡ j) × (i.out.stop ≡ Some q)) ⊎ HasStop is j q

  pub has_append : (xs ys : List (Item M)) (j : Key) (q : M.Reason) → HasStop ys j q → HasStop (xs ++ ys) j q
  has_append [] ys j q h = h
  has_append (x ∷ xs) ys j q h = inr (has_append xs ys j q h)

module _ (M : Machine) where
  pub has_cut : (t : ℕ) (is : List (Item M)) (j : Key) (q : M.Reason) → HasStop M (cut M t is) j q → HasStop M is j q
  has_cut t [] j q h = h
  has_cut t (i ∷ is) j q h =
      let f = has_cut t is j q in
      ⊎_elim
      (λ b. let g : HasStop M (i ∷ cut M t is) j q = rw (cut_in M t i is b) at h in ⊎_elim (λ y. inl y) (λ y. inr (f y)) g)
      (λ b. let g : HasStop M [] j q = rw (cut_out M t i is b) at h in absurd g)
      (cases_lt i.key.tick t)

  pub has_at : (is : List (Item M)) (j : Key) (q : M.Reason) → HasStop M is j q → HasStop M (at M j.resource is) j q
  has_at [] j q h = h
  has_at (i ∷ is) j q h =
      let f = has_at is j q in
      ⊎_elim
      (λ (e : i.key.resource ≡ j.resource). rw (at_mine M j.resource i is e) (⊎_elim (λ y. inl y) (λ y. inr (f y)) h))
      (λ (n : i.key.resource ≡ j.resource → ⊥). rw (at_other M j.resource i is n) (⊎_elim (λ y. absurd (n (ap (λ z. z.resource) y.0))) (λ y. f y) h))
      (cases_eq i.key.resource j.resource)

  pub has_whole : (r : ℕ) (is : List (Item M)) (j : Key) (q : M.Reason) → HasStop M (at M r is) j q → HasStop M is j q
  has_whole r [] j q h = h
  has_whole r (i ∷ is) j q h =
      let f = has_whole r is j q in
      ⊎_elim
      (λ e. let g : HasStop M (i ∷ at M r is) j q = rw (at_mine M r i is e) at h in ⊎_elim (λ y. inl y) (λ y. inr (f y)) g)
      (λ n. inr (f (rw (at_other M r i is n) at h)))
      (cases_eq i.key.resource r)

  -- a chain that stops has stopped at its end
  chain_none : (r : ℕ) (i : Item M) (is : List (Item M)) (l : Local M) (q : M.Reason) (j : Key) (p : M.Reason) → Chain M r (after M l i) is → i.out.stop ≡ Some q → HasStop M is j p → ⊥
  chain_none r i [] l q j p c e h = h
  chain_none r i (z ∷ is) l q j p c e h = none_some _ _ c.0.live e

  chain_end : (r : ℕ) (i : Item M) (is : List (Item M)) (l : Local M) (q : M.Reason) → Chain M r (after M l i) is → i.out.stop ≡ Some q → (end M (after M l i) is).stop ≡ Some q
  chain_end r i [] l q c e = e
  chain_end r i (z ∷ is) l q c e = absurd (none_some _ _ c.0.live e)

  pub chain_stops : (r : ℕ) (is : List (Item M)) (l : Local M) (j : Key) (q : M.Reason) → Chain M r l is → HasStop M is j q → (end M l is).stop ≡ Some q
  chain_stops r [] l j q c h = absurd h
  chain_stops r (i ∷ is) l j q c h = ⊎_elim (λ y. chain_end r i is l q c.1 y.1) (λ y. chain_stops r is (after M l i) j q c.1 y) h

  some_same : {A : Type 0} (o : Option A) (p q : A) → o ≡ Some p → o ≡ Some q → p ≡ q
  some_same o p q e f = let g : Some p ≡ Some q = sym e ∙ f in cc

  -- and at one item alone
  pub chain_one : (r : ℕ) (is : List (Item M)) (l : Local M) (j k : Key) (p q : M.Reason) → Chain M r l is → HasStop M is j p → HasStop M is k q → (j ≡ k) × (p ≡ q)
  chain_one r [] l j k p q c h g = absurd h
  chain_one r (i ∷ is) l j k p q c h g =
      let f = chain_one r is (after M l i) j k p q c.1 in
      ⊎_elim
      (λ y. ⊎_elim (λ z. (sym y.0 ∙ z.0, some_same i.out.stop p q y.1 z.1)) (λ z. absurd (chain_none r i is l p k q c.1 y.1 z)) g)
      (λ y. ⊎_elim (λ z. absurd (chain_none r i is l q j p c.1 z.1 y)) (λ z. f y z) g)
      h

  -- the same of the simulation
  sim_none : (i : Item M) (is : List (Item M)) (w : World M) (q : M.Reason) (j : Key) (p : M.Reason) → Simulates M (next M w i) is → i.out.stop ≡ Some q → HasStop M is j p → ⊥
  sim_none i [] w q j p c e h = h
  sim_none i (z ∷ is) w q j p c e h = none_some _ _ (sym (with_at_same i.key.resource i.out.stop w.stops i.key.resource refl) ∙ c.0.live i.key.resource) e

  pub sim_one : (is : List (Item M)) (w : World M) (j k : Key) (p q : M.Reason) → Simulates M w is → HasStop M is j p → HasStop M is k q → (j ≡ k) × (p ≡ q)
  sim_one [] w j k p q c h g = absurd h
  sim_one (i ∷ is) w j k p q c h g =
      let f = sim_one is (next M w i) j k p q c.1 in
      ⊎_elim
      (λ y. ⊎_elim (λ z. (sym y.0 ∙ z.0, some_same i.out.stop p q y.1 z.1)) (λ z. absurd (sim_none i is w p k q c.1 y.1 z)) g)
      (λ y. ⊎_elim (λ z. absurd (sim_none i is w q j p c.1 z.1 y)) (λ z. f y z) g)
      h

  pub sim_stops : (is : List (Item M)) (w : World M) (j : Key) (q : M.Reason) → Simulates M w is → HasStop M is j q → (last M w is).stops j.resource ≡ Some q
  sim_stops [] w j q c h = absurd h
  sim_stops (i ∷ is) w j q c h = ⊎_elim (λ y. here i is w j q c.1 y.0 y.1) (λ y. sim_stops is (next M w i) j q c.1 y) h
    where
      here : (i : Item M) (is : List (Item M)) (w : World M) (j : Key) (q : M.Reason) → Simulates M (next M w i) is → i.key ≡ j → i.out.stop ≡ Some q → (last M (next M w i) is).stops j.resource ≡ Some q
      here i [] w j q c e f = with_at_same i.key.resource i.out.stop w.stops j.resource (ap (λ z. z.resource) (sym e)) ∙ f
      here i (z ∷ is) w j q c e f = absurd (none_some _ _ (sym (with_at_same i.key.resource i.out.stop w.stops i.key.resource refl) ∙ c.0.live i.key.resource) f)

  pub stop_has : (is : List (Item M)) (s : StopsAt M is) → HasStop M is s.item.key s.reason
  stop_has is s = subst (λ (z : List (Item M)). HasStop M z s.item.key s.reason) (sym s.split) (has_append M s.front (s.item ∷ []) s.item.key s.reason (inl (refl, s.stops)))

  pub counted_next : IsLawful M → (count : ℕ) (w : World M) (i : Item M) → IsCounted M count w → Fair M i.key.resource i → i.key.resource < count → IsCounted M count (next M w i)
  counted_next law count w i n f b = record {
    agenda = λ k h. or_else_nones _ _
        (none_since _ (λ v q. let z : k.resource < count = n.links k i.key.tick (f.sent_arrives k v q) in omega arith))
        (edit_none _ _ (λ v q. let z : k.resource ≡ i.key.resource = f.edits_own k (Some v) q in omega arith) (without_none i.key w.agenda k (n.agenda k h)));
    links = n.links;
  }

  pub takes_counted : (count : ℕ) (w : World M) (i : Item M) → IsCounted M count w → TakesLeast M w i → i.key.resource < count
  takes_counted count w i n x = ⊎_elim (λ h. h) (λ h. absurd (none_some _ _ (n.agenda i.key h) x.waits)) (cases_lt i.key.resource count)

  -- all that a simulation takes is of the resources that there are
  pub sim_counted : IsLawful M → (count : ℕ) (is : List (Item M)) (w : World M) → IsCounted M count w → Simulates M w is → Each (λ (i : Item M). i.key.resource < count) is
  sim_counted law count [] w n x = tt
  sim_counted law count (i ∷ is) w n x =
      let b = takes_counted count w i n x.0 in
      (b, sim_counted law count is (next M w i) (counted_next law count w i n (least_fair M law w i x.0) b) x.1)

  pub has_each : (P : Key → Type 0) (is : List (Item M)) (j : Key) (q : M.Reason) → Each (λ (i : Item M). P i.key) is → HasStop M is j q → P j
  has_each P [] j q h g = absurd g
  has_each P (i ∷ is) j q h g = ⊎_elim (λ y. subst (λ (k : Key). P k) y.0 h.0) (λ y. has_each P is j q h.1 y) g

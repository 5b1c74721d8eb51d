-- How far the lines of each resource are handed out once a run has stopped.
use Rattle.fb_types.proofs.Common.{◌≡◌, ℕ, ◌+◌, ◌<◌, ◌≤◌, ◌⊎◌, max, true, sym, ap, ◌∙◌, inl, inr, ⊎_elim, arith, nat_lt, is_some, if◌then◌else◌, cases_lt, cond-true, cond-false, lt-ltb, le-ltb, Machine, Core, floor, floor_of, IsLeastStop}
use Rattle.fb_types.proofs.lemmas.lists.Lookups.{option_cases}
use Rattle.fb_laws.specs.Finality.{Edge, until, IsEdge}
use Rattle.fb_laws.proofs.lemmas.schedules.Edges.{until_before, until_within, until_past}

module _ (M : Machine) where
  -- at the least stop the edge is there, within the lines of the resource that stops
  pub until_at_stop : (count : ℕ) (c : Core M) (m : ℕ) (e : Edge) (s : ℕ) (reason : M.Reason) → IsEdge M count c m e → IsLeastStop M count c s reason
      → (r : ℕ) → until e r ≡ (if nat_lt s r then (c s).clock else (c s).clock + 1)
  until_at_stop count c m e s reason edge stop r =
      let t = tick_is in
      let q = resource_is in
      ⊎_elim
      (λ (b : s < r). until_past e r (omega arith) ∙ t ∙ sym (cond-true (nat_lt s r) (c s).clock ((c s).clock + 1) (lt-ltb s r b)))
      (λ (b : r ≤ s).
      ⊎_elim
      (λ (l : r < s). until_before e r (omega arith))
      (λ (l : s ≤ r). until_within e r (omega arith) within)
      (cases_lt r s)
      ∙ ap (λ z. z + 1) t ∙ sym (cond-false (nat_lt s r) (c s).clock ((c s).clock + 1) (le-ltb s r b)))
      (cases_lt s r)
    where
      here : floor M c m s ≡ (c s).clock
      here = ap (λ o. floor_of o (c s).clock m) stop.stopped

      up_to : (e.tick < (c s).clock) ⊎ ((e.tick ≡ (c s).clock) × (e.resource ≤ s))
      up_to =
          ⊎_elim
          (λ (l : e.tick < floor M c m s). inl (omega (arith, here)))
          (λ k. let i : e.tick ≡ floor M c m s = k.0 in inr (omega (arith, here), k.1))
          (edge.least s stop.counted)

      same : (e.tick ≡ (c s).clock) × (e.resource ≡ s)
      same =
          let at : floor M c m e.resource ≡ e.tick = edge.at in
          ⊎_elim
          (λ n. absurd (
          let p : (c s).clock < (c e.resource).clock = stop.passed e.resource edge.counted n in
          let f : floor M c m e.resource ≡ max (c e.resource).clock m = ap (λ o. floor_of o (c e.resource).clock m) n in
          ⊎_elim (λ l. omega arith) (λ k. let i = k.0 in omega arith) up_to))
          (λ n.
          let f : floor M c m e.resource ≡ (c e.resource).clock = ap (λ o. floor_of o (c e.resource).clock m) n.1 in
          ⊎_elim
          (λ (l : (c s).clock < (c e.resource).clock). absurd (⊎_elim (λ a. omega arith) (λ a. let i = a.0 in omega arith) up_to))
          (λ k. let i : (c s).clock ≡ (c e.resource).clock = k.0 in let j : s ≤ e.resource = k.1 in
          ⊎_elim (λ a. absurd (omega arith)) (λ a. let g = a.1 in (omega arith, omega arith)) up_to)
          (stop.least e.resource n.0 n.1))
          (option_cases (c e.resource).state.stop)

      tick_is : e.tick ≡ (c s).clock
      tick_is = same.0

      resource_is : e.resource ≡ s
      resource_is = same.1

      within : e.within ≡ true
      within = edge.stopped ∙ ap (λ z. is_some (c z).state.stop) resource_is ∙ ap is_some stop.stopped

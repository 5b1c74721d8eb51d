-- What is found among the resources, said of the core where they are: its edge, and its end.
use Rattle.fb_window.proofs.lemmas.Common.{◌≡◌, ℕ, ◌<◌, ◌≤◌, min, true, false, Option, Some, None, List, length, refl, sym, ap, ◌∙◌, inl, inr, ⊎_elim, arith, is_some, option_map, slice_get, cases_lt, Inputs, system_of, Core, IsFloor, floor_of, found, Machine, machine, count_of, Key, StopMark, Reason, IsNext, waiting, Resource, Edge, IsFirstStop, IsAt}
use Rattle.fb_types.proofs.Common.{IsSome, floor, IsAtHorizon, IsLeastStop}
use Rattle.fb_types.specs.Machines as machines
use Rattle.fb_types.proofs.lemmas.lists.Lookups.{none_some}
use Rattle.fb_types.specs.declared.run.Event.{Event}
use Rattle.fb_net.specs.Events.{event_of}
use Rattle.fb_laws.specs.Finality.{IsEdge, IsLeastTick}
use Rattle.fb_window.specs.Frontiers.{AreAllPast, AreAtHorizon, IsFrontier, floor_at}
use Rattle.fb_laws.proofs.lemmas.lists.Indexes.{has_at, is_at}

module _ (i : Inputs) (limit : ℕ) (c : Core (machine (system_of i) limit)) (xs : List Resource) (at : IsAt i limit c xs) where
  abbrev M : Machine
  M = machine (system_of i) limit

  has : (r : ℕ) → r < count_of (system_of i) → (x : Resource) × (slice_get xs r ≡ Some x)
  has r b = let n = at.counted in has_at xs r (omega arith)

  counted : (r : ℕ) (x : Resource) → slice_get xs r ≡ Some x → r < count_of (system_of i)
  counted r x e = let n = at.counted in let b = is_at xs r x e in omega arith

  stop_is : (r : ℕ) (x : Resource) → slice_get xs r ≡ Some x → (c r).state.stop ≡ x.stopped
  stop_is r x e = (at.each r x e).state.stop

  clock_is : (r : ℕ) (x : Resource) → slice_get xs r ≡ Some x → (c r).clock ≡ x.clock
  clock_is r x e = (at.each r x e).clock

  -- ---- The edge

  floor_is : (m r : ℕ) (x : Resource) → slice_get xs r ≡ Some x → floor M c m r ≡ floor_at m x
  floor_is m r x e = ap (λ o. floor_of o (c r).clock m) (stop_is r x e) ∙ ap (λ t. floor_of x.stopped t m) (clock_is r x e)

  pub is_edge : (m : ℕ) (e : Edge) → 0 < count_of (system_of i) → IsFrontier m xs e → IsEdge M (count_of (system_of i)) c m e
  is_edge m e some f =
      let n = at.counted in
      let t = f.there (omega arith) in
      let b : e.resource < length xs = t.1 in
      record {
        counted = omega arith;
        at = floor_is m e.resource t.0 t.2 ∙ t.3;
        least = λ q less.
            let y = has q less in
            let g = floor_is m q y.0 y.1 in
            ⊎_elim (λ l. inl (omega arith)) (λ l. let k = l.0 in inr (omega arith, l.1)) (f.least q y.0 (omega arith) y.1);
        stopped = t.4 ∙ ap is_some (sym (stop_is e.resource t.0 t.2));
      }

  -- Nothing waits before the least tick of all agendas.
  pub is_least : (m horizon : ℕ) → m ≤ horizon → ((r : ℕ) (x : Resource) (j : Key) → slice_get xs r ≡ Some x → j.tick < m → waiting x.agenda j ≡ None)
      → (m < horizon → (r : ℕ) × (x : Resource) × (slice_get xs r ≡ Some x) × IsNext x.agenda m) → IsLeastTick M horizon c m
  is_least m horizon cap low there = record {
    is_floor = λ s k b. (λ e. ⊎_elim (λ l. waits s k b e l) (λ l. (at.others s l).waits k e) (cases_lt s (count_of (system_of i))), posted s k);
    most = most;
  }
    where
      waits : (s : ℕ) (k : Key) → k.tick < m → k.resource ≡ s → s < count_of (system_of i) → machines.waiting M (c s).state k ≡ None
      waits s k b e l =
          let x = has s l in
          let sits = at.each s x.0 x.1 in
          sits.state.waits k (e ∙ sym sits.number) ∙ ap (λ o. option_map (event_of i) o) (low s x.0 k x.1 b)

      posted : (s : ℕ) (k : Key) → found k (c s).outbox ≡ None
      posted s k =
          ap (λ z. found k z)
          (⊎_elim (λ l. let x = has s l in (at.each s x.0 x.1).posted) (λ l. (at.others s l).posted) (cases_lt s (count_of (system_of i))))

      some_of : (o : Option Event) → IsSome o → (e : Event) × (o ≡ Some e)
      some_of (Some e) h = (e, refl)
      some_of None h = absurd (let e : false ≡ true = h in cc)

      most : (n : ℕ) → IsFloor M c n → min n horizon ≤ m
      most n f =
          ⊎_elim
          (λ l.
          ⊎_elim
          (λ (g : m < n).
          let t = there l in
          let j = t.3.waits in
          let e = some_of (waiting t.1.agenda j.0) j.2 in
          let sits = at.each t.0 t.1 t.2 in
          let own : j.0.resource ≡ t.1.tree.resource = sits.of.home j.0 e.0 e.1 in
          let tick : j.0.tick ≡ m = j.1 in
          absurd (none_some _ _ ((f t.0 j.0 (omega arith)).0 (own ∙ sits.number)) (sits.state.waits j.0 own ∙ ap (λ o. option_map (event_of i) o) e.1)))
          (λ (g : n ≤ m). omega arith)
          (cases_lt m n))
          (λ l. omega arith)
          (cases_lt m horizon)

  -- ---- The end

  pub at_horizon : (horizon : ℕ) → AreAtHorizon horizon xs → IsAtHorizon M (count_of (system_of i)) horizon c
  at_horizon horizon h = record {
    live = λ r b. let x = has r b in stop_is r x.0 x.1 ∙ (h r x.0 x.1).0;
    clocks = λ r b. let x = has r b in clock_is r x.0 x.1 ∙ (h r x.0 x.1).1;
  }

  pub from_horizon : (horizon : ℕ) → IsAtHorizon M (count_of (system_of i)) horizon c → AreAtHorizon horizon xs
  from_horizon horizon h r x e = (sym (stop_is r x e) ∙ h.live r (counted r x e), sym (clock_is r x e) ∙ h.clocks r (counted r x e))

  pub stop_clock : (m : StopMark) → IsFirstStop xs (length xs) m → (c m.resource).clock ≡ m.tick
  stop_clock m f = let t = f.there in clock_is m.resource t.0 t.1 ∙ t.3

  pub least_stop : (m : StopMark) → IsFirstStop xs (length xs) m → AreAllPast m.tick xs → IsLeastStop M (count_of (system_of i)) c m.resource m.reason
  least_stop m f past =
      let t = f.there in
      let here = stop_clock m f in
      record {
        counted = counted m.resource t.0 t.1;
        stopped = stop_is m.resource t.0 t.1 ∙ t.2;
        least = λ q other e.
            ⊎_elim
            (λ b. let x = has q b in
            let clock = clock_is q x.0 x.1 in
            ⊎_elim (λ l. inl (omega arith)) (λ l. let k = l.0 in inr (omega arith, l.1)) (f.least q x.0 other (is_at xs q x.0 x.1) x.1 (sym (stop_is q x.0 x.1) ∙ e)))
            (λ b. absurd (none_some _ _ (at.others q b).live e))
            (cases_lt q (count_of (system_of i)));
        passed = λ q b e. let x = has q b in let clock = clock_is q x.0 x.1 in let l : m.tick < x.0.clock = past q x.0 x.1 (sym (stop_is q x.0 x.1) ∙ e) in omega arith;
      }

  -- the mark of a stop
  abbrev pub mark_at : (s : ℕ) → Reason → StopMark
  mark_at s reason = record { tick = (c s).clock; resource = s; reason = reason }

  pub first_stop : (s : ℕ) (reason : Reason) → IsLeastStop M (count_of (system_of i)) c s reason → IsFirstStop xs (length xs) (mark_at s reason)
  first_stop s reason h =
      let x = has s h.counted in
      record {
        there = (x.0, x.1, sym (stop_is s x.0 x.1) ∙ h.stopped, sym (clock_is s x.0 x.1));
        least = λ r y other b e q.
            let clock = clock_is r y e in
            ⊎_elim (λ l. inl (omega arith)) (λ l. let k = l.0 in inr (omega arith, l.1)) (h.least r other (stop_is r y e ∙ q));
      }

  pub all_past : (s : ℕ) (reason : Reason) → IsLeastStop M (count_of (system_of i)) c s reason → AreAllPast (c s).clock xs
  all_past s reason h r x e q = let clock = clock_is r x e in let l : (c s).clock < (c r).clock = h.passed r (counted r x e) (stop_is r x e ∙ q) in omega arith

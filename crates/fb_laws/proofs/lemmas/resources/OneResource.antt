-- The law of one resource, for every simulation of accepted inputs.
use Rattle.fb_laws.proofs.lemmas.Common.{◌≡◌, ℕ, ◌+◌, ◌<◌, ◌≤◌, ◌⊎◌, refl, sym, ap, ◌∙◌, subst, inl, ⊎_elim, List, [], ◌∷◌, ◌++◌, Some, None, arith, if◌then◌else◌, nat_lt, cases_lt, cond-true, cond-false, lt-ltb, le-ltb, timer_key, System, Taken, IsSimulation, opening, Machine, Item, Local, Each, cut, machine, items_of, count_of, IsMerge, lines_before, Key, Reason, Line, Stimulus, lines_of, IsSound, IsLawful, World, Simulates, last, Simulation, IsOpening, IsCounted, StopsAt, taken_at, view}
use Rattle.fb_types.proofs.Common.{NoneBelow, Ending, AtHorizon, AtStop, ending_of, RestsAt}
use Rattle.fb_types.specs.Simulation as sim
use Rattle.fb_types.specs.Histories.{history_to, HasHistory, takings_below, stop_of, history, taken, IsSameAt, IsNotBefore}
use Rattle.fb_laws.specs.Worlds.{far, IsCovered, NotBefore, left_at}
use Rattle.fb_laws.specs.ResourceLaw.{HasHistories, OneRun, HasLines, lines_to_stop, HasStops}
use Rattle.fb_types.proofs.lemmas.lists.Lookups.{none_some, or_else_none}
use Rattle.fb_laws.proofs.lemmas.resources.Chains.{agree_refl, run_unique}
use Rattle.fb_laws.proofs.lemmas.resources.FamilyEnds.{stop_stops}
use Rattle.fb_laws.proofs.lemmas.resources.Stops.{sim_one, stop_has, has_each}
use Rattle.fb_laws.proofs.lemmas.resources.ResourceAlone.{one_resource}
use Rattle.fb_laws.proofs.lemmas.schedules.Lines.{merge_same}
use Rattle.fb_laws.proofs.lemmas.resources.Stopping.{stops_where, run_there, lines_there, has_lines}
use Rattle.fb_laws.proofs.lemmas.resources.OwnPart.{lawful}
use Rattle.fb_laws.proofs.lemmas.machine.Bridge.{all_each, world_of, simulates, stops_after, stops_are, items_below, chain_below, none_has, ending_is}
use Rattle.fb_laws.proofs.lemmas.machine.Opening.{opening_fits, is_opening, is_counted}

pub same_trans : (M : Machine) (r : ℕ) (l m n : Local M) → IsSameAt M r l m → IsSameAt M r m n → IsSameAt M r l n
same_trans M r l m n a b = record { part = a.part ∙ b.part; own = λ k e. a.own k e ∙ b.own k e; stop = a.stop ∙ b.stop }

module _ (sys : System) (sound : IsSound sys) (stimuli : List Stimulus) (horizon limit : ℕ) (ts : List Taken) (x : IsSimulation sys stimuli horizon limit ts) where
  abbrev pub M : Machine
  M = machine sys limit

  abbrev pub w : World (machine sys limit)
  w = world_of sys sound limit (opening sys stimuli) (λ r. None)

  abbrev pub is : List (Item (machine sys limit))
  is = items_of sys limit ts

  pub law : IsLawful (machine sys limit)
  law = lawful sys sound limit

  pub opens : IsOpening M w
  opens = is_opening sys sound limit stimuli

  pub counts : IsCounted M (count_of sys) w
  counts = is_counted sys sound limit stimuli

  simulated : Simulates M w is × (last M w is ≡ world_of sys sound limit (sim.last (opening sys stimuli) ts) (stops_after sys sound limit (λ r. None) ts))
  simulated = simulates sys sound limit (timer_key 0 0 0) ts (opening sys stimuli) (λ r. None) (opening_fits sys sound limit stimuli (timer_key 0 0 0)) (inl (λ r. refl)) x.chain

  pub ends_as : ((ending_of horizon ts ≡ AtHorizon horizon) × Each (λ (t : Taken). t.effect.stop ≡ None) ts)
      ⊎ ((s : StopsAt M is) × (ending_of horizon ts ≡ AtStop s.item.key.tick s.item.key.resource s.reason))
  ends_as = ending_is sys sound limit horizon ts (opening sys stimuli) x.chain

  items_each : (us : List Taken) → Each (λ (t : Taken). t.key.tick < horizon) us → Each (λ (i : Item M). i.key.tick < horizon) (items_of sys limit us)
  items_each [] h = tt
  items_each (u ∷ us) h = (h.0, items_each us h.1)

  -- it is the simulation of the machine
  pub is_simulation : Simulation M w horizon is
  is_simulation = record {
    chain = simulated.0;
    below = items_each ts (all_each (λ (t : Taken). t.key.tick < horizon) ts x.below);
    ends = λ live k b.
        ⊎_elim
        (λ y. let none : NoneBelow (sim.last (opening sys stimuli) ts).agenda horizon = subst (λ (e : Ending). RestsAt horizon e (sim.last (opening sys stimuli) ts).agenda) y.0 x.rests in
        ap (λ z. z.agenda k) simulated.1 ∙ none k b)
        (λ y. absurd (none_some _ _ (live y.0.item.key.resource) (stop_stops M is w y.0)))
        ends_as;
  }

  -- there is only one stop
  same_stop : (s u : StopsAt M is) → (s.item.key ≡ u.item.key) × (s.reason ≡ u.reason)
  same_stop s u = sim_one M is w s.item.key u.item.key s.reason u.reason simulated.0 (stop_has M is s) (stop_has M is u)

  never : Each (λ (t : Taken). t.effect.stop ≡ None) ts → StopsAt M is → ⊥
  never none s = none_has sys sound limit ts none s.item.key s.reason (stop_has M is s)

  stop_below : (s : StopsAt M is) → s.item.key.tick < horizon
  stop_below s = has_each M (λ (k : Key). k.tick < horizon) is s.item.key s.reason is_simulation.below (stop_has M is s)

  history_most : (m s r : ℕ) → history_to m s r ≤ m + 1
  history_most m s r =
      ⊎_elim (λ b. let e : history_to m s r ≡ m + 1 = cond-true (nat_lt r s) (m + 1) m (lt-ltb r s b) in omega arith)
      (λ b. let e : history_to m s r ≡ m = cond-false (nat_lt r s) (m + 1) m (le-ltb r s b) in omega arith) (cases_lt r s)

  pub is_covered : (r t : ℕ) → HasHistory (ending_of horizon ts) r t → IsCovered M horizon is r t
  is_covered r t h =
      ⊎_elim
      (λ y. record {
        in_range = let b : HasHistory (AtHorizon horizon) r t = subst (λ (e : Ending). HasHistory e r t) y.0 h in b;
        before_stop = λ s. absurd (never y.1 s);
      })
      (λ y. let s = y.0 in let b : HasHistory (AtStop s.item.key.tick s.item.key.resource s.reason) r t = subst (λ (e : Ending). HasHistory e r t) y.1 h in
      let most = history_most s.item.key.tick s.item.key.resource r in
      let below = stop_below s in
      record {
        in_range = reached t (history_to s.item.key.tick s.item.key.resource r) s.item.key.tick b most below;
        before_stop = λ u. subst (λ (k : Key). t ≤ far M k r) (same_stop s u).0 b;
      })
      ends_as
    where
      reached : (t f m : ℕ) → t ≤ f → f ≤ m + 1 → m < horizon → t ≤ horizon
      reached t f m a b c = omega arith

  -- the history is what the simulation of the machine has left
  pub left_is : (r t : ℕ) → IsSameAt M r (left_at M w is r t) (history sys stimuli limit ts r t)
  left_is r t =
      let below = takings_below t ts in
      let c = chain_below sys sound limit t ts (opening sys stimuli) x.chain in
      let y = simulates sys sound limit (timer_key 0 0 0) below (opening sys stimuli) (λ r. None) (opening_fits sys sound limit stimuli (timer_key 0 0 0)) (inl (λ r. refl)) c in
      let e : last M w (cut M t is) ≡ world_of sys sound limit (sim.last (opening sys stimuli) below) (stops_after sys sound limit (λ r. None) below) = ap (λ z. last M w z) (sym (items_below sys sound limit t ts)) ∙ y.1 in
      let same : IsSameAt M r (view M (world_of sys sound limit (sim.last (opening sys stimuli) below) (stops_after sys sound limit (λ r. None) below)) r) (history sys stimuli limit ts r t) = record {
        part = refl;
        own = λ k q. refl;
        stop = stops_are sys sound limit below (opening sys stimuli) (λ r. None) (inl (λ r. refl)) c r ∙ or_else_none (stop_of r below);
      } in
      subst (λ (z : World M). IsSameAt M r (view M z r) (history sys stimuli limit ts r t)) (sym e) same

  pub histories_law : HasHistories sys stimuli horizon limit ts
  histories_law r t h =
      let y = one_resource M law w horizon is opens is_simulation r t (is_covered r t h) in
      record { run = y.0; leaves = same_trans M r _ _ _ y.1 (left_is r t) }

  pub one_run : OneRun sys stimuli horizon limit ts
  one_run l r t js ks a b = run_unique M law r t js ks l l (agree_refl M r t l) a b

  pub lines_items : (us : List Taken) → lines_of M (items_of sys limit us) ≡ sim.lines_of us
  lines_items [] = refl
  lines_items (u ∷ us) = ap (λ z. u.effect.lines ++ z) (lines_items us)

  pub lines_law : HasLines sys stimuli horizon limit ts
  lines_law t =
      subst (λ (ls : List Line). IsMerge M (count_of sys) (λ r. lines_of M (taken sys limit ts r t)) (lines_before M t ls)) (lines_items ts)
      (has_lines M law (count_of sys) w horizon is t counts is_simulation)

  not_before : (m r : ℕ) → IsNotBefore (ending_of horizon ts) m r → NotBefore M is m r
  not_before m r h s =
      ⊎_elim
      (λ y. absurd (never y.1 s))
      (λ y. let b : IsNotBefore (AtStop y.0.item.key.tick y.0.item.key.resource y.0.reason) m r = subst (λ (e : Ending). IsNotBefore e m r) y.1 h in
      subst (λ (k : Key). (m < k.tick) ⊎ ((m ≡ k.tick) × (r ≤ k.resource))) (same_stop y.0 s).0 b)
      ends_as

  -- the ending names the stop
  pub named : (s : StopsAt M is) (m r : ℕ) (q : Reason) → s.item.key.tick ≡ m → s.item.key.resource ≡ r → s.reason ≡ q → ending_of horizon ts ≡ AtStop m r q
  named s m r q a b c =
      ⊎_elim
      (λ y. absurd (never y.1 s))
      (λ y. let one = same_stop y.0 s in
      y.1 ∙ (λ i. AtStop (one.0 i).tick (one.0 i).resource (one.1 i)) ∙ (λ i. AtStop (a i) (b i) (c i)))
      ends_as

  -- the stop that the ending names
  pub record Named (m r : ℕ) (q : Reason) : Type 0 where
    pub at_stop : StopsAt M is
    pub tick : at_stop.item.key.tick ≡ m
    pub resource : at_stop.item.key.resource ≡ r
    pub reason : at_stop.reason ≡ q

  pub stop_named : (m r : ℕ) (q : Reason) → ending_of horizon ts ≡ AtStop m r q → Named m r q
  stop_named m r q e =
      ⊎_elim
      (λ y. absurd (other (sym y.0 ∙ e)))
      (λ y. same y.0 (sym y.1 ∙ e))
      ends_as
    where
      other : AtHorizon horizon ≡ AtStop m r q → ⊥
      other f = cc

      same : (s : StopsAt M is) → AtStop s.item.key.tick s.item.key.resource s.reason ≡ AtStop m r q → Named m r q
      same s f =
          let a : s.item.key.tick ≡ m = cc in
          let b : s.item.key.resource ≡ r = cc in
          let c : s.reason ≡ q = cc in
          record { at_stop = s; tick = a; resource = b; reason = c }

  pub stops_law : HasStops sys stimuli horizon limit ts
  stops_law m r b nb =
      let n = not_before m r nb in
      let run = run_there M law w horizon is opens is_simulation m r b n in
      let whole = stops_where M law w horizon is opens is_simulation m r (taken_at M is r (m + 1)) b n run in
      record {
        run = run;
        there = λ q e. let y = whole.there q e in named y.0 m r q y.1 y.2 y.3;
        back = λ q e. let y = stop_named m r q e in whole.back y.at_stop y.tick y.resource ∙ ap Some y.reason;
        lines = λ q e. let y = stop_named m r q e in
            subst (λ (ls : List Line). IsMerge M (count_of sys) (lines_to_stop sys limit ts m r) ls) (lines_items ts)
            (merge_same M (count_of sys) _ (lines_to_stop sys limit ts m r) (lines_of M is)
            (λ z c. (λ i. lines_of M (taken sys limit ts z (if nat_lt (y.resource i) z then y.tick i else y.tick i + 1))))
            (lines_there M law (count_of sys) w horizon is opens counts is_simulation y.at_stop));
      }

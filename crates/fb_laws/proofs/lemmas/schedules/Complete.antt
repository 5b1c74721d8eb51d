-- The end of a complete schedule is that of the simulation.
use Rattle.fb_laws.proofs.lemmas.Common.{◌≡◌, ℕ, ◌+◌, ◌<◌, ◌≤◌, Some, None, List, sym, ap, ◌∙◌, subst, ⊎_elim, arith, cases_lt, Key, Machine, Item, Each, cut, at, CoreStep, Core, IsSchedule, IsLeastStop, IsLawful, World, last, Simulation, IsOpening, reach, StopsAt, IsCounted}
use Rattle.fb_types.proofs.Common.{IsAtHorizon}
use Rattle.fb_laws.proofs.lemmas.schedules.Start.{opening}
use Rattle.fb_types.proofs.lemmas.lists.Lookups.{none_some, option_cases}
use Rattle.fb_laws.proofs.lemmas.resources.Chains.{cut_all}
use Rattle.fb_types.proofs.lemmas.lists.EachLaws.{each_map}
use Rattle.fb_laws.proofs.lemmas.takings.NoLesserTick.{Fair, chain_fair}
use Rattle.fb_laws.proofs.lemmas.resources.FamilyEnds.{each_at, Story, story, reach_high, reach_least, reach_most}
use Rattle.fb_laws.proofs.lemmas.resources.Stops.{HasStop, has_cut, has_at, has_whole, chain_stops, chain_one, sim_one, sim_stops, stop_has, sim_counted, has_each}
use Rattle.fb_laws.proofs.lemmas.schedules.Keeps.{passed, limit, done_of, StopIn, Inv, passed_limit}
use Rattle.fb_laws.proofs.lemmas.schedules.Reached.{both_take, passed_live, reached_by, runs_after, inv_after}

module _ (M : Machine) where
  -- what is the same for both ends
  module _ (law : IsLawful M) (count : ℕ) (w : World M) (horizon : ℕ) (is : List (Item M)) (es : List (CoreStep M)) (o : IsOpening M w) (n : IsCounted M count w) (x : Simulation M w horizon is) (sc : IsSchedule M horizon (opening M w) es) where
    abbrev c : Core M
    c = reached_by M w es

    abbrev runs : ℕ → List (Item M)
    runs = runs_after M es

    v : Inv M horizon w c runs
    v = inv_after M law w horizon es o sc

    s : Story M w horizon is
    s = story M law w horizon is o x

    -- a resource that has run as far has taken all that the simulation takes of it
    reached : (st : StopsAt M is) → ((r : ℕ) → s.family.bound r ≡ reach M st.item.key r) → (r : ℕ) → reach M st.item.key r ≤ passed M (c r) → cut M (reach M st.item.key r) (runs r) ≡ at M r is
    reached st b r h =
        let t = reach M st.item.key r in
        let e = b r in
        let under : Each (λ (i : Item M). i.key.tick < s.family.bound r) (at M r is) = subst (λ (z : List (Item M)). Each (λ (i : Item M). i.key.tick < s.family.bound r) z) (s.runs_are r) (s.family.run r).below in
        both_take M law w horizon horizon is c runs v o x s r t (omega arith) (omega arith) ∙ cut_all M t (at M r is) (each_map _ _ (at M r is) (λ (i : Item M) (g : i.key.tick < s.family.bound r). omega arith) under)

    -- items that stop have stopped the resource
    core_stops : (r : ℕ) (j : Key) (q : M.Reason) → HasStop M (runs r) j q → (c r).state.stop ≡ Some q
    core_stops r j q h = let a = v.each r in (a.state 0).stop ∙ chain_stops M r (runs r) _ j q a.chain h

    -- the resource of the stop, once it has run as far
    reached_stop : (st : StopsAt M is) → ((r : ℕ) → s.family.bound r ≡ reach M st.item.key r) → st.item.key.tick < passed M (c st.item.key.resource) → HasStop M (runs st.item.key.resource) st.item.key st.reason
    reached_stop st b h =
        let r = st.item.key.resource in
        let e = reach_high M st.item.key r (omega arith) in
        let p = reached st b r (omega arith) in
        has_cut M (reach M st.item.key r) (runs r) st.item.key st.reason (rw p (has_at M is st.item.key st.reason (stop_has M is st)))

    stop_counted : (st : StopsAt M is) → st.item.key.resource < count
    stop_counted st = has_each M (λ k. k.resource < count) is st.item.key st.reason (sim_counted M law count is w n x.chain) (stop_has M is st)

    stop_below : (st : StopsAt M is) → st.item.key.tick < horizon
    stop_below st = has_each M (λ k. k.tick < horizon) is st.item.key st.reason x.below (stop_has M is st)

    -- a schedule that reaches the horizon: the simulation does too, and all has been taken
    pub record EndsAlike : Type 0 where
      pub live : (r : ℕ) → (last M w is).stops r ≡ None
      pub taken_all : (r : ℕ) → r < count → at M r is ≡ runs r

    pub ends_alike : IsAtHorizon M count horizon c → EndsAlike
    ends_alike e = ⊎_elim at_end stopped s.ends
      where
        far : (r : ℕ) → r < count → passed M (c r) ≡ horizon
        far r h = passed_live M (c r) (e.live r h) ∙ e.clocks r h

        whole : (r : ℕ) → r < count → cut M horizon (runs r) ≡ runs r
        whole r h = let p = far r h in cut_all M horizon (runs r) (each_map _ _ (runs r) (λ (i : Item M) (b : i.key.tick < passed M (c r)). omega arith) (v.each r).below)

        at_end : ((r : ℕ) → (last M w is).stops r ≡ None) × ((r : ℕ) → s.family.bound r ≡ horizon) → EndsAlike
        at_end h = record {
          live = h.0;
          taken_all = λ r b.
              let p = far r b in let q = h.1 r in
              let all : cut M horizon (at M r is) ≡ at M r is = cut_all M horizon (at M r is) (each_map _ _ (at M r is) (λ i z. z.0) (each_at M _ r is x.below)) in
              sym all ∙ sym (both_take M law w horizon horizon is c runs v o x s r horizon (omega arith) (omega arith)) ∙ whole r b;
        }

        stopped : ((st : StopsAt M is) × ((r : ℕ) → s.family.bound r ≡ reach M st.item.key r)) → EndsAlike
        stopped h =
            let st = h.0 in
            let r = st.item.key.resource in
            let b = stop_counted st in
            let f = far r b in
            let t = stop_below st in
            absurd (none_some _ _ (e.live r b) (core_stops r st.item.key st.reason (reached_stop st h.1 (omega arith))))

    -- a schedule in which something stops: the simulation stops at the least of the stops, and all that it took has been taken
    pub record StopsAlike (resource : ℕ) (reason : M.Reason) : Type 0 where
      pub at_stop : StopsAt M is
      pub tick_is : at_stop.item.key.tick ≡ (c resource).clock
      pub resource_is : at_stop.item.key.resource ≡ resource
      pub reason_is : at_stop.reason ≡ reason
      pub taken_all : (r : ℕ) → r < count → at M r is ≡ cut M (reach M at_stop.item.key r) (runs r)

    pub stops_alike : (r : ℕ) (q : M.Reason) → IsLeastStop M count c r q → StopsAlike r q
    stops_alike r q e = ⊎_elim at_end stopped s.ends
      where
        mine : StopIn M (c r).clock (runs r) q
        mine = (v.each r).stopped q e.stopped

        passed_is : passed M (c r) ≡ (c r).clock + 1
        passed_is = ap (λ z. done_of z (c r).clock) e.stopped

        -- what r has taken to its stop is in the simulation
        has_stop : (c r).clock < s.family.bound r → HasStop M is mine.key q
        has_stop h =
            let t = (c r).clock + 1 in
            let pi = passed_is in
            let p = both_take M law w horizon horizon is c runs v o x s r t (omega arith) (omega arith) in
            let all : cut M t (runs r) ≡ runs r = cut_all M t (runs r) (each_map _ _ (runs r) (λ (i : Item M) (b : i.key.tick < passed M (c r)). omega arith) (v.each r).below) in
            let g : HasStop M (cut M t (runs r)) mine.key q = rw all mine.has in
            has_whole M r is mine.key q (has_cut M t (at M r is) mine.key q (rw p at g))

        at_end : ((z : ℕ) → (last M w is).stops z ≡ None) × ((z : ℕ) → s.family.bound z ≡ horizon) → StopsAlike r q
        at_end h =
            let b = h.1 r in
            let l : limit M (c r) ≤ horizon = v.range r in
            let pi = passed_is in
            let m : passed M (c r) ≤ limit M (c r) = passed_limit M w _ _ r (c r) (runs r) (v.each r) in
            absurd (none_some _ _ (h.0 mine.key.resource) (sim_stops M is w mine.key q x.chain (has_stop (omega arith))))

        mine_here : mine.key.resource ≡ r
        mine_here = has_each M (λ k. k.resource ≡ r) (runs r) mine.key q (each_map _ _ (runs r) (λ i (f : Fair M r i). f.mine) (chain_fair M law r (runs r) _ (v.each r).chain)) mine.has

        -- every resource has run as far as the least stop
        come : (z : ℕ) → z < count → (c r).clock + 1 ≤ passed M (c z)
        come z b =
            ⊎_elim
            (λ n. let p = passed_live M (c z) n in let l = e.passed z b n in omega arith)
            (λ y. let p : passed M (c z) ≡ (c z).clock + 1 = ap (λ k. done_of k (c z).clock) y.1 in
            ⊎_elim (λ g. omega arith) (λ g. let f = g.0 in omega arith) (e.least z y.0 y.1))
            (option_cases (c z).state.stop)

        here : (st : StopsAt M is) → ((z : ℕ) → s.family.bound z ≡ reach M st.item.key z) → mine.key ≡ st.item.key → q ≡ st.reason → StopsAlike r q
        here st b f g =
            let t : st.item.key.tick ≡ (c r).clock = ap (λ k. k.tick) (sym f) ∙ mine.tick_is in
            record {
              at_stop = st;
              tick_is = t;
              resource_is = ap (λ k. k.resource) (sym f) ∙ mine_here;
              reason_is = sym g;
              taken_all = λ z y. sym (reached st b z (let a = come z y in let d = reach_most M st.item.key z in omega arith));
            }

        -- the least stop is not past the simulation's
        never : (st : StopsAt M is) → ((z : ℕ) → s.family.bound z ≡ reach M st.item.key z) → s.family.bound r ≤ (c r).clock → ⊥
        never st b g =
            let j = st.item.key in
            let z = j.resource in
            let y = stop_counted st in
            let a = come z y in
            let d = b r in
            let low = reach_least M j r in
            let has : HasStop M (runs z) j st.reason = reached_stop st b (omega arith) in
            let stop = core_stops z j st.reason has in
            let other = (v.each z).stopped st.reason stop in
            let one = chain_one M z (runs z) _ j other.key st.reason st.reason (v.each z).chain has other.has in
            let tick : j.tick ≡ (c z).clock = ap (λ k. k.tick) one.0 ∙ other.tick_is in
            ⊎_elim
            (λ l. omega arith)
            (λ l. let f = l.0 in let m = l.1 in let high = reach_high M j r m in omega arith)
            (e.least z st.reason stop)

        stopped : ((st : StopsAt M is) × ((z : ℕ) → s.family.bound z ≡ reach M st.item.key z)) → StopsAlike r q
        stopped h = ⊎_elim (λ g. let y = sim_one M is w mine.key h.0.item.key q h.0.reason x.chain (has_stop g) (stop_has M is h.0) in here h.0 h.1 y.0 y.1) (λ g. absurd (never h.0 h.1 g)) (cases_lt (c r).clock (s.family.bound r))

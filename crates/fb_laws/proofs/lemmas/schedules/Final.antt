-- The final lines of a core are lines of the simulation.
use Rattle.fb_laws.proofs.lemmas.Common.{◌≡◌, ℕ, ◌+◌, ◌<◌, ◌≤◌, max, Option, Some, None, List, sym, ap, ◌∙◌, subst, ⊎_elim, arith, cases_lt, Machine, Item, Each, cut, at, CoreStep, Core, IsFloor, floor, floor_of, IsSchedule, lines_at, lines_before, Chain, lines_of, IsLawful, World, Simulation, IsOpening, view, reach, StopsAt, IsCounted, IsFinal}
use Rattle.fb_laws.proofs.lemmas.schedules.Start.{opening}
use Rattle.fb_laws.proofs.lemmas.resources.Chains.{cut_all}
use Rattle.fb_types.proofs.lemmas.lists.EachLaws.{each_map}
use Rattle.fb_laws.proofs.lemmas.resources.Families.{start}
use Rattle.fb_laws.proofs.lemmas.resources.FamilyEnds.{Story, story, reach_high, reach_least}
use Rattle.fb_laws.proofs.lemmas.resources.Stops.{HasStop, has_cut, has_at, has_each, chain_stops, chain_one, stop_has, sim_counted}
use Rattle.fb_laws.proofs.lemmas.schedules.Keeps.{passed, done_of, floor_max, Inv}
use Rattle.fb_laws.proofs.lemmas.schedules.Reached.{both_take, reached_by, runs_after, inv_after}
use Rattle.fb_laws.proofs.lemmas.schedules.Lines.{sim_here, chain_here, lines_of_at, lines_of_cut, chain_rises}

floor_done : {R : Type 0} (stop : Option R) (clock m n : ℕ) → m ≤ n → floor_of stop clock m ≤ max (done_of stop clock) n
floor_done None clock m n b = omega arith
floor_done (Some reason) clock m n b = omega arith

module _ (M : Machine) where
  -- the floor of an invariant may be raised to any that nothing comes before
  pub raised : (horizon : ℕ) (w : World M) (c : Core M) (runs : ℕ → List (Item M)) (v : Inv M horizon w c runs) (m : ℕ) → IsFloor M c m → Inv M horizon w c runs
  raised horizon w c runs v m f = record v {
    m = max v.m m;
    is_floor = λ s k b. ⊎_elim (λ h. v.is_floor s k h) (λ h. f s k (omega arith)) (cases_lt k.tick v.m);
    links = λ k u a b. let p = floor_max M (c (M.sender k)).state.stop (c (M.sender k)).clock v.m m in v.links k u a (omega arith);
  }

  pub raised_more : (horizon : ℕ) (w : World M) (c : Core M) (runs : ℕ → List (Item M)) (v : Inv M horizon w c runs) (m : ℕ) (f : IsFloor M c m) → m ≤ (raised horizon w c runs v m f).m
  unfolding raised
  raised_more horizon w c runs v m f = omega arith

  module _ (law : IsLawful M) (count : ℕ) (w : World M) (horizon : ℕ) (is : List (Item M)) (es : List (CoreStep M)) (o : IsOpening M w) (n : IsCounted M count w) (x : Simulation M w horizon is) (sc : IsSchedule M horizon (opening M w) es) (m : ℕ) (fl : IsFloor M (reached_by M w es) m) where
    abbrev c : Core M
    c = reached_by M w es

    abbrev runs : ℕ → List (Item M)
    runs = runs_after M es

    record Raised : Type 0 where
      v : Inv M horizon w c runs
      more : m ≤ v.m

    v : Raised
    unfolding raised
    v = let v = inv_after M law w horizon es o sc in record { v = raised horizon w c runs v m fl; more = omega arith }

    s : Story M w horizon is
    s = story M law w horizon is o x

    -- no live resource's floor, and no stopped resource's clock, is past a stop of its own in the simulation
    beyond : (st : StopsAt M is) → ((r : ℕ) → s.family.bound r ≡ reach M st.item.key r) → st.item.key.tick < max (passed M (c st.item.key.resource)) v.v.m → ((q : M.Reason) × ((c st.item.key.resource).state.stop ≡ Some q)) × ((c st.item.key.resource).clock ≡ st.item.key.tick)
    beyond st b h =
        let j = st.item.key in
        let r = j.resource in
        let t = j.tick + 1 in
        let e = b r in
        let f = reach_high M j r (omega arith) in
        let p = both_take M law w horizon horizon is c runs v.v o x s r t (omega arith) (omega arith) in
        let under : Each (λ (i : Item M). i.key.tick < s.family.bound r) (at M r is) = subst (λ (z : List (Item M)). Each (λ (i : Item M). i.key.tick < s.family.bound r) z) (s.runs_are r) (s.family.run r).below in
        let whole : cut M t (at M r is) ≡ at M r is = cut_all M t (at M r is) (each_map _ _ (at M r is) (λ (i : Item M) (g : i.key.tick < s.family.bound r). omega arith) under) in
        let g : HasStop M (at M r is) j st.reason = has_at M is j st.reason (stop_has M is st) in
        let d : HasStop M (cut M t (runs r)) j st.reason = subst (λ (z : List (Item M)). HasStop M z j st.reason) (sym (p ∙ whole)) g in
        let has : HasStop M (runs r) j st.reason = has_cut M t (runs r) j st.reason d in
        let a = v.v.each r in
        let stop : (c r).state.stop ≡ Some st.reason = (a.state 0).stop ∙ chain_stops M r (runs r) _ j st.reason a.chain has in
        let other = a.stopped st.reason stop in
        let one = chain_one M r (runs r) _ j other.key st.reason st.reason a.chain has other.has in
        ((st.reason, stop), sym other.tick_is ∙ ap (λ k. k.tick) (sym one.0))

    -- what is final is in the simulation
    final_below : (t r : ℕ) → r < count → t < horizon → IsFinal M count c m t r → t < s.family.bound r
    final_below t r b u f = ⊎_elim (λ y. let e = y.1 r in omega arith) (λ y. stops y.0 y.1) s.ends
      where
        stops : (st : StopsAt M is) → ((z : ℕ) → s.family.bound z ≡ reach M st.item.key z) → t < s.family.bound r
        stops st e =
            let j = st.item.key in
            let z = j.resource in
            let low = reach_least M j r in
            let d = e r in
            let zc : z < count = has_each M (λ k. k.resource < count) is j st.reason (sim_counted M law count is w n x.chain) (stop_has M is st) in
            let fd = floor_done (c z).state.stop (c z).clock m v.v.m v.more in
            let past : j.tick < floor M c m z → ⊥ = λ h.
            let y = beyond st e (omega arith) in
            let g : floor M c m z ≡ (c z).clock = ap (λ k. floor_of k (c z).clock m) y.0.1 in
            let i = y.1 in omega arith in
            ⊎_elim
            (λ h. h)
            (λ h. absurd (⊎_elim
            (λ a. ⊎_elim (λ g. past (omega arith)) (λ g. let k = g.0 in let i = g.1 in let hi = reach_high M j r (omega arith) in past (omega arith)) a)
            (λ a.
            let k : z ≡ r = a.0 in
            let hi = reach_high M j r (omega arith) in
            let clock : (c z).clock ≡ t = a.2 in
            let pa : passed M (c z) ≡ (c z).clock + 1 = ap (λ q. done_of q (c z).clock) a.1.1 in
            let y = beyond st e (omega arith) in
            let i = y.1 in omega arith)
            (f z zc)))
            (cases_lt t (s.family.bound r))

    -- the items to a final tick are those of the simulation
    pub final_items : (t r : ℕ) → r < count → t < horizon → IsFinal M count c m t r → cut M (t + 1) (runs r) ≡ cut M (t + 1) (at M r is)
    final_items t r b u f =
        let g = final_below t r b u f in
        let fd = floor_done (c r).state.stop (c r).clock m v.v.m v.more in
        let own : t < max (passed M (c r)) v.v.m = ⊎_elim
        (λ a. ⊎_elim (λ h. omega arith) (λ h. let i = h.1 in absurd (omega arith)) a)
        (λ a. let pa : passed M (c r) ≡ (c r).clock + 1 = ap (λ q. done_of q (c r).clock) a.1.1 in let i = a.2 in omega arith)
        (f r b) in
        both_take M law w horizon horizon is c runs v.v o x s r (t + 1) (omega arith) (omega arith)

    -- and so are the lines
    pub final_lines : (t r : ℕ) → r < count → t < horizon → IsFinal M count c m t r → lines_before M (t + 1) (c r).lines ≡ lines_before M (t + 1) (lines_at M r (lines_of M is))
    final_lines t r b u f =
        let a = v.v.each r in
        let ru = s.family.run r in
        let e : lines_before M (t + 1) (lines_of M (runs r)) ≡ lines_of M (cut M (t + 1) (runs r)) = lines_of_cut M (t + 1) (runs r) (chain_here M law r (runs r) _ a.chain) (chain_rises M law r (runs r) _ a.chain) in
        let ch = subst (λ (z : List (Item M)). Chain M r (start M (view M w r) (s.family.heard r)) z) (s.runs_are r) ru.chain in
        let g : lines_before M (t + 1) (lines_of M (at M r is)) ≡ lines_of M (cut M (t + 1) (at M r is)) = lines_of_cut M (t + 1) (at M r is) (chain_here M law r (at M r is) _ ch) (chain_rises M law r (at M r is) _ ch) in
        ap (λ z. lines_before M (t + 1) z) a.said ∙ e ∙ ap (λ z. lines_of M z) (final_items t r b u f) ∙ sym g ∙ ap (λ z. lines_before M (t + 1) z) (sym (lines_of_at M r is (sim_here M law is w x.chain)))

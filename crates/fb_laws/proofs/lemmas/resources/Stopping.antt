-- Where the simulation stops, seen from one resource.
use Rattle.fb_laws.proofs.lemmas.Common.{Machine, Item, Local, Each, end, Run, cut, at, IsMerge, lines_before, ◌≡◌, ℕ, ◌+◌, ◌<◌, ◌≤◌, Some, None, List, [], ◌∷◌, refl, sym, ap, ◌∙◌, subst, inl, inr, ⊎_elim, arith, cond-true, lt-ltb, Key, lines_of, after, Chain, IsCounted, taken_at, reach, World, Simulation, IsOpening, view, StopsAt, Simulates, next, IsLawful}
use Rattle.fb_laws.specs.Worlds.{NotBefore, apart}
use Rattle.fb_laws.proofs.lemmas.resources.ResourceAlone.{agree_run, at_cut, sim_cut}
use Rattle.fb_laws.proofs.lemmas.schedules.Lines.{sim_merge, merge_same, Rises, lines_of_cut, sim_here}
use Rattle.fb_types.proofs.lemmas.lists.Lookups.{none_some, option_cases, tick_before}
use Rattle.fb_laws.proofs.lemmas.resources.Chains.{Agree, run_unique, cut_run, cut_all}
use Rattle.fb_types.proofs.lemmas.lists.EachLaws.{each_map}
use Rattle.fb_laws.proofs.lemmas.resources.Families.{start}
use Rattle.fb_laws.proofs.lemmas.resources.FamilyEnds.{Story, story, stop_stops, reach_high, reach_least}
use Rattle.fb_laws.proofs.lemmas.resources.Stops.{HasStop, has_cut, has_at, has_whole, has_each, chain_stops, sim_one, sim_stops, stop_has}
use Rattle.fb_laws.proofs.lemmas.resources.Global.{sim_late, next_late, least_fair}

module _ (M : Machine) where
  -- it stops at (m, r) exactly if the takes of r alone below m + 1 end with a reason, which is then the simulation's
  pub record StopsWhere (w : World M) (is : List (Item M)) (m r : ℕ) (alone_run : List (Item M)) : Type 0 where
    pub there : (q : M.Reason) → (end M (apart M w is r (m + 1)) alone_run).stop ≡ Some q → (s : StopsAt M is) × (s.item.key.tick ≡ m) × (s.item.key.resource ≡ r) × (s.reason ≡ q)
    pub back : (s : StopsAt M is) → s.item.key.tick ≡ m → s.item.key.resource ≡ r → (end M (apart M w is r (m + 1)) alone_run).stop ≡ Some s.reason

  -- a chain that ends with a reason has an item that stops
  end_has : (r : ℕ) (is : List (Item M)) (l : Local M) (q : M.Reason) → Chain M r l is → l.stop ≡ None → (end M l is).stop ≡ Some q → (j : Key) × HasStop M is j q × (j.resource ≡ r)
  end_has r [] l q c n e = absurd (none_some _ _ n e)
  end_has r (i ∷ is) l q c n e =
      ⊎_elim
      (λ m. let y = end_has r is (after M l i) q c.1 m e in (y.0, inr y.1, y.2))
      (λ s. (i.key, inl (refl, here i is l s.0 s.1 c.1 e), c.0.mine))
      (option_cases i.out.stop)
    where
      here : (i : Item M) (is : List (Item M)) (l : Local M) (p : M.Reason) → i.out.stop ≡ Some p → Chain M r (after M l i) is → (end M (after M l i) is).stop ≡ Some q → i.out.stop ≡ Some q
      here i [] l p f c e = e
      here i (j ∷ is) l p f c e = absurd (none_some _ _ c.0.live f)

  pub stops_where : IsLawful M → (w : World M) (horizon : ℕ) (is : List (Item M)) → IsOpening M w → Simulation M w horizon is → (m r : ℕ) (alone_run : List (Item M)) → m < horizon → NotBefore M is m r →
      Run M r (apart M w is r (m + 1)) (m + 1) alone_run → StopsWhere w is m r alone_run
  stops_where law w horizon is o x m r alone_run b nb run = record {
    there = λ q e.
        let h = end_has r alone_run (apart M w is r (m + 1)) q run.chain (o.live r) e in
        let g : HasStop M (cut M (m + 1) (at M r is)) h.0 q = subst (λ (z : List (Item M)). HasStop M z h.0 q) same h.1 in
        let f : HasStop M is h.0 q = has_whole M r is h.0 q (has_cut M (m + 1) (at M r is) h.0 q g) in
        let under : h.0.tick < m + 1 = has_each M (λ k. k.tick < m + 1) alone_run h.0 q run.below h.1 in
        ⊎_elim
        (λ y. absurd (none_some _ _ (y.0 h.0.resource) (sim_stops M is w h.0 q x.chain f)))
        (λ y. let one = sim_one M is w y.0.item.key h.0 y.0.reason q x.chain (stop_has M is y.0) f in
        let k : y.0.item.key.tick ≡ h.0.tick = ap (λ z. z.tick) one.0 in
        (y.0, ⊎_elim (λ l. omega arith) (λ l. sym l.0) (nb y.0), ap (λ z. z.resource) one.0 ∙ h.2, one.1))
        st.ends;
    back = λ s t u.
        let g : HasStop M (at M r is) s.item.key s.reason = subst (λ (z : ℕ). HasStop M (at M z is) s.item.key s.reason) u (has_at M is s.item.key s.reason (stop_has M is s)) in
        let f : HasStop M alone_run s.item.key s.reason = subst (λ (z : List (Item M)). HasStop M z s.item.key s.reason) (sym (same ∙ whole s t u)) g in
        chain_stops M r alone_run (apart M w is r (m + 1)) s.item.key s.reason run.chain f;
  }
    where
      st : Story M w horizon is
      st = story M law w horizon is o x

      far : m + 1 ≤ st.family.bound r
      far = ⊎_elim
          (λ y. let e = y.1 r in omega arith)
          (λ y. let e = y.1 r in let k = y.0.item.key in let low = reach_least M k r in ⊎_elim (λ l. omega arith) (λ l. let d = l.0 in let u = l.1 in let f = reach_high M k r u in omega arith) (nb y.0))
          st.ends

      same : alone_run ≡ cut M (m + 1) (at M r is)
      same =
          let a : Agree M r (m + 1) (apart M w is r (m + 1)) (start M (view M w r) (st.family.heard r)) = record {
            part = refl;
            stop = refl;
            own = λ k e c. refl;
            inbox = λ k e c. cond-true _ _ _ (lt-ltb k.tick (m + 1) c) ∙ sym (st.heard_is r k);
          } in
          run_unique M law r (m + 1) alone_run (cut M (m + 1) (st.family.runs r)) _ _ a run (cut_run M r (m + 1) (st.family.bound r) (st.family.runs r) _ far (st.family.run r)) ∙ ap (λ z. cut M (m + 1) z) (st.runs_are r)

      whole : (s : StopsAt M is) → s.item.key.tick ≡ m → s.item.key.resource ≡ r → cut M (m + 1) (at M r is) ≡ at M r is
      whole s t u = cut_all M (m + 1) (at M r is) (⊎_elim
          (λ y. absurd (none_some _ _ (y.0 s.item.key.resource) (stop_stops M is w s)))
          (λ y. let e = y.1 r in
          let one = sim_one M is w y.0.item.key s.item.key y.0.reason s.reason x.chain (stop_has M is y.0) (stop_has M is s) in
          let k : y.0.item.key.tick ≡ s.item.key.tick = ap (λ z. z.tick) one.0 in
          let h : y.0.item.key.resource ≡ s.item.key.resource = ap (λ z. z.resource) one.0 in
          let f = reach_high M y.0.item.key r (omega arith) in
          let under : Each (λ (i : Item M). i.key.tick < st.family.bound r) (at M r is) = subst (λ (z : List (Item M)). Each (λ (i : Item M). i.key.tick < st.family.bound r) z) (st.runs_are r) (st.family.run r).below in
          each_map _ _ (at M r is) (λ (i : Item M) (g : i.key.tick < st.family.bound r). omega arith) under)
          st.ends)

  -- the takes of r alone below m + 1 are those of the simulation
  pub run_there : IsLawful M → (w : World M) (horizon : ℕ) (is : List (Item M)) → IsOpening M w → Simulation M w horizon is → (m r : ℕ) → m < horizon → NotBefore M is m r → Run M r (apart M w is r (m + 1)) (m + 1) (taken_at M is r (m + 1))
  run_there law w horizon is o x m r b nb =
      let run = cut_run M r (m + 1) (st.family.bound r) (st.family.runs r) _ far (st.family.run r) in
      let e : cut M (m + 1) (st.family.runs r) ≡ taken_at M is r (m + 1) = ap (λ z. cut M (m + 1) z) (st.runs_are r) ∙ sym (at_cut M law r (m + 1) is w x.chain) in
      let a : Agree M r (m + 1) (start M (view M w r) (st.family.heard r)) (apart M w is r (m + 1)) = record {
        part = refl;
        stop = refl;
        own = λ k e c. refl;
        inbox = λ k e c. st.heard_is r k ∙ sym (cond-true _ _ _ (lt-ltb k.tick (m + 1) c));
      } in
      agree_run M r (m + 1) _ _ (taken_at M is r (m + 1)) a (rw e at run)
    where
      st : Story M w horizon is
      st = story M law w horizon is o x

      far : m + 1 ≤ st.family.bound r
      far = ⊎_elim
          (λ y. let e = y.1 r in omega arith)
          (λ y. let e = y.1 r in let k = y.0.item.key in let low = reach_least M k r in ⊎_elim (λ l. omega arith) (λ l. let d = l.0 in let u = l.1 in let f = reach_high M k r u in omega arith) (nb y.0))
          st.ends

  -- at a stop the lines are those of the resources, up to the one that stops a tick more
  pub lines_there : IsLawful M → (count : ℕ) (w : World M) (horizon : ℕ) (is : List (Item M)) → IsOpening M w → IsCounted M count w → Simulation M w horizon is → (s : StopsAt M is) →
      IsMerge M count (λ z. lines_of M (taken_at M is z (reach M s.item.key z))) (lines_of M is)
  lines_there law count w horizon is o n x s =
      merge_same M count _ _ (lines_of M is) (λ z b. ap (λ y. lines_of M y) (sym (at_cut M law z (reach M s.item.key z) is w x.chain ∙ whole z))) (sim_merge M law count is w n x.chain)
    where
      st : Story M w horizon is
      st = story M law w horizon is o x

      whole : (z : ℕ) → cut M (reach M s.item.key z) (at M z is) ≡ at M z is
      whole z = cut_all M (reach M s.item.key z) (at M z is) (⊎_elim
          (λ y. absurd (none_some _ _ (y.0 s.item.key.resource) (stop_stops M is w s)))
          (λ y. let e = y.1 z in
          let one = sim_one M is w y.0.item.key s.item.key y.0.reason s.reason x.chain (stop_has M is y.0) (stop_has M is s) in
          let f : reach M y.0.item.key z ≡ reach M s.item.key z = ap (λ k. reach M k z) one.0 in
          let under : Each (λ (i : Item M). i.key.tick < st.family.bound z) (at M z is) = subst (λ (q : List (Item M)). Each (λ (i : Item M). i.key.tick < st.family.bound z) q) (st.runs_are z) (st.family.run z).below in
          each_map _ _ (at M z is) (λ (i : Item M) (g : i.key.tick < st.family.bound z). omega arith) under)
          st.ends)

  rises : IsLawful M → (is : List (Item M)) (w : World M) → Simulates M w is → Rises M is
  rises law [] w x = tt
  rises law (i ∷ is) w x = (sim_late M law i.key.tick is (next M w i) (next_late M law i.key.tick w i (least_fair M law w i x.0) (omega arith) (λ k b. x.0.least k (tick_before k i.key b))) x.1, rises law is (next M w i) x.1)

  pub has_lines : IsLawful M → (count : ℕ) (w : World M) (horizon : ℕ) (is : List (Item M)) (t : ℕ) → IsCounted M count w → Simulation M w horizon is → IsMerge M count (λ r. lines_of M (taken_at M is r t)) (lines_before M t (lines_of M is))
  has_lines law count w horizon is t n x =
      subst (λ (z : List M.Line). IsMerge M count (λ r. lines_of M (taken_at M is r t)) z) (sym (lines_of_cut M t is (sim_here M law is w x.chain) (rises law is w x.chain)))
      (sim_merge M law count (cut M t is) w n (sim_cut M t is w x.chain))

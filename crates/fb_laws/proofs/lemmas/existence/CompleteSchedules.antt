-- If a schedule is complete there is a simulation.
use Rattle.fb_laws.proofs.lemmas.Common.{◌≡◌, ℕ, ◌<◌, None, List, ap, ◌+◌, ◌≤◌, ⊎_elim, arith, Machine, Item, cut, at, Core, CoreStep, IsSchedule, IsLeastStop, IsLawful, World, last, Simulation, IsOpening, IsCounted}
use Rattle.fb_types.proofs.Common.{IsAtHorizon}
use Rattle.fb_laws.proofs.lemmas.schedules.Start.{opening}
use Rattle.fb_types.proofs.lemmas.lists.Lookups.{none_some, option_cases}
use Rattle.fb_laws.proofs.lemmas.resources.Chains.{cut_all}
use Rattle.fb_types.proofs.lemmas.lists.EachLaws.{each_map}
use Rattle.fb_laws.proofs.lemmas.resources.FamilyEnds.{story, Story, stop_stops}
use Rattle.fb_laws.proofs.lemmas.schedules.Keeps.{passed, limit, done_of, passed_limit, known, Known, Inv}
use Rattle.fb_laws.proofs.lemmas.resources.Stops.{HasStop, has_cut, has_whole, sim_stops}
use Rattle.fb_laws.proofs.lemmas.existence.FamilyRuns.{from_family}
use Rattle.fb_laws.proofs.lemmas.schedules.Reached.{both_take, passed_live, inv_after, reached_by, runs_after}

module _ (M : Machine) where
  -- there is a simulation if a schedule is complete
  pub exists_end : IsLawful M → (count : ℕ) (w : World M) (horizon : ℕ) (es : List (CoreStep M)) → IsOpening M w → IsCounted M count w → IsSchedule M horizon (opening M w) es → IsAtHorizon M count horizon (reached_by M w es) → (is : List (Item M)) × Simulation M w horizon is
  exists_end law count w horizon es o n sc e =
      let c = reached_by M w es in
      let v = inv_after M law w horizon es o sc in
      let kn = known M law horizon w c (runs_after M es) v in
      from_family M law count horizon w kn.family o n (λ r b. let p = passed_live M (c r) (e.live r b) in let q = e.clocks r b in let f = kn.bound_is r in omega arith)

  pub exists_stop : IsLawful M → (count : ℕ) (w : World M) (horizon : ℕ) (es : List (CoreStep M)) → IsOpening M w → IsCounted M count w → IsSchedule M horizon (opening M w) es → (s : ℕ) (reason : M.Reason) → IsLeastStop M count (reached_by M w es) s reason → (is : List (Item M)) × Simulation M w horizon is
  exists_stop law count w horizon es o n sc s reason e = (y.0, whole)
    where
      c : Core M
      c = reached_by M w es

      runs : ℕ → List (Item M)
      runs = runs_after M es

      v : Inv M horizon w c runs
      v = inv_after M law w horizon es o sc

      t : ℕ
      t = (c s).clock + 1

      come : (z : ℕ) → z < count → t ≤ passed M (c z)
      come z b =
          ⊎_elim
          (λ n. let p = passed_live M (c z) n in let l = e.passed z b n in omega arith)
          (λ y. let p : passed M (c z) ≡ (c z).clock + 1 = ap (λ k. done_of k (c z).clock) y.1 in
          ⊎_elim (λ g. omega arith) (λ g. let f = g.0 in omega arith) (e.least z y.0 y.1))
          (option_cases (c z).state.stop)

      kn : Known M horizon w c runs v
      kn = known M law horizon w c runs v

      y : (is : List (Item M)) × Simulation M w t is
      y = from_family M law count t w kn.family o n (λ r b. let p = come r b in let f = kn.bound_is r in omega arith)

      st : Story M w t y.0
      st = story M law w t y.0 o y.1

      in_range : t ≤ horizon
      in_range =
          let p : passed M (c s) ≡ (c s).clock + 1 = ap (λ k. done_of k (c s).clock) e.stopped in
          let l = passed_limit M w _ _ s (c s) (runs s) (v.each s) in
          let g : limit M (c s) ≤ horizon = v.range s in omega arith

      stops : ((r : ℕ) → (last M w y.0).stops r ≡ None) → ⊥
      stops live = ⊎_elim (λ h. going h.0 h.1) (λ h. none_some _ _ (live h.0.item.key.resource) (stop_stops M y.0 w h.0)) st.ends
        where
          going : ((r : ℕ) → (last M w y.0).stops r ≡ None) → ((r : ℕ) → st.family.bound r ≡ t) → ⊥
          going h b =
              let mine = (v.each s).stopped reason e.stopped in
              let pi : passed M (c s) ≡ (c s).clock + 1 = ap (λ k. done_of k (c s).clock) e.stopped in
              let d = b s in
              let p = both_take M law w horizon t y.0 c runs v o y.1 st s t (omega arith) (omega arith) in
              let all : cut M t (runs s) ≡ runs s = cut_all M t (runs s) (each_map _ _ (runs s) (λ (i : Item M) (b : i.key.tick < passed M (c s)). omega arith) (v.each s).below) in
              let g : HasStop M (cut M t (runs s)) mine.key reason = rw all mine.has in
              let f : HasStop M y.0 mine.key reason = has_whole M s y.0 mine.key reason (has_cut M t (at M s y.0) mine.key reason (rw p at g)) in
              none_some _ _ (h mine.key.resource) (sim_stops M y.0 w mine.key reason y.1.chain f)

      whole : Simulation M w horizon y.0
      whole = record {
        chain = y.1.chain;
        below = each_map _ _ y.0 (λ (i : Item M) (b : i.key.tick < t). let q = in_range in omega arith) y.1.below;
        ends = λ live k b. absurd (stops live);
      }

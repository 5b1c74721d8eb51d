-- The lines of the simulation are the merge of the resources' lines, and a merge is determined.
use Rattle.fb_laws.proofs.lemmas.Common.{◌≡◌, ℕ, ◌+◌, List, sym, ap, ◌∙◌, if◌then◌else◌, nat_lt, Key, Machine, Item, lines_before, IsMerge, CoreStep, IsSchedule, IsLeastStop, lines_of, IsLawful, World, Simulation, IsOpening, reach, IsCounted}
use Rattle.fb_types.proofs.Common.{IsAtHorizon}
use Rattle.fb_laws.proofs.lemmas.schedules.Start.{opening}
use Rattle.fb_laws.proofs.lemmas.schedules.Reached.{reached_by, runs_after, inv_after}
use Rattle.fb_laws.proofs.lemmas.schedules.Complete.{ends_alike, stops_alike}
use Rattle.fb_laws.proofs.lemmas.schedules.Lines.{merge_same, sim_merge, lines_of_cut, chain_here, chain_rises}

module _ (M : Machine) where
  -- at the horizon the lines of the core, merged, are those of the simulation
  pub lines_at_end : (law : IsLawful M) (count : ℕ) (w : World M) (horizon : ℕ) (is : List (Item M)) (es : List (CoreStep M)) (o : IsOpening M w) (n : IsCounted M count w) (x : Simulation M w horizon is) (sc : IsSchedule M horizon (opening M w) es) →
      IsAtHorizon M count horizon (reached_by M w es) → IsMerge M count (λ r. (reached_by M w es r).lines) (lines_of M is)
  lines_at_end law count w horizon is es o n x sc e =
      let a = ends_alike M law count w horizon is es o n x sc e in
      let v = inv_after M law w horizon es o sc in
      merge_same M count _ _ (lines_of M is) (λ r b. ap (λ z. lines_of M z) (a.taken_all r b) ∙ sym (v.each r).said) (sim_merge M law count is w n x.chain)

  -- and cut after the least stop they are those of the simulation that stops there
  pub lines_at_stop : (law : IsLawful M) (count : ℕ) (w : World M) (horizon : ℕ) (is : List (Item M)) (es : List (CoreStep M)) (o : IsOpening M w) (n : IsCounted M count w) (x : Simulation M w horizon is) (sc : IsSchedule M horizon (opening M w) es) →
      (s : ℕ) (q : M.Reason) (e : IsLeastStop M count (reached_by M w es) s q) → (k : Key) → k.tick ≡ (reached_by M w es s).clock → k.resource ≡ s →
      IsMerge M count (λ r. lines_before M (reach M k r) (reached_by M w es r).lines) (lines_of M is)
  lines_at_stop law count w horizon is es o n x sc s q e k t u =
      let a = stops_alike M law count w horizon is es o n x sc s q e in
      let v = inv_after M law w horizon es o sc in
      let j = a.at_stop.item.key in
      merge_same M count _ _ (lines_of M is)
      (λ r b.
      let c = v.each r in
      let f = lines_of_cut M (reach M j r) (runs_after M es r) (chain_here M law r (runs_after M es r) _ c.chain) (chain_rises M law r (runs_after M es r) _ c.chain) in
      let g : reach M j r ≡ reach M k r = reach_same j k r (a.tick_is ∙ sym t) (a.resource_is ∙ sym u) in
      ap (λ z. lines_of M z) (a.taken_all r b) ∙ sym f ∙ ap (λ z. lines_before M (reach M j r) z) (sym c.said) ∙ ap (λ z. lines_before M z (reached_by M w es r).lines) g)
      (sim_merge M law count is w n x.chain)
    where
      reach_same : (j k : Key) (r : ℕ) → j.tick ≡ k.tick → j.resource ≡ k.resource → reach M j r ≡ reach M k r
      reach_same j k r p q = ap (λ z. if nat_lt z r then j.tick else j.tick + 1) q ∙ ap (λ z. if nat_lt k.resource r then z else z + 1) p

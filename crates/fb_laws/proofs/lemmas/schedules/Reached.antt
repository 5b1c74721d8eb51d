-- Each resource by itself is at its history, whatever the schedule.
use Rattle.fb_laws.proofs.lemmas.Common.{◌≡◌, ℕ, ◌+◌, ◌<◌, ◌≤◌, max, None, List, [], sym, ap, ◌∙◌, arith, Machine, Item, end, cut, at, Member, CoreStep, Core, IsSchedule, core_after, taken_after, lines_of, IsLawful, World, Simulation, IsOpening, view, taken_at}
use Rattle.fb_types.proofs.Common.{min}
use Rattle.fb_laws.specs.Worlds.{IsCovered, left_at}
use Rattle.fb_laws.proofs.lemmas.schedules.Start.{opening}
use Rattle.fb_types.specs.Histories.{IsSameAt}
use Rattle.fb_laws.proofs.lemmas.resources.Chains.{cut_all, cut_cut}
use Rattle.fb_types.proofs.lemmas.lists.EachLaws.{each_map}
use Rattle.fb_laws.proofs.lemmas.resources.Families.{start, family_unique}
use Rattle.fb_laws.proofs.lemmas.resources.FamilyEnds.{Story, story}
use Rattle.fb_laws.proofs.lemmas.resources.ResourceAlone.{at_cut, history_is, covered_bound}
use Rattle.fb_laws.proofs.lemmas.schedules.Keeps.{passed, done_of, Inv, mail, inv_opening, inv_all, known}

module _ (M : Machine) where
  -- the core after a schedule
  abbrev pub reached_by : World M → List (CoreStep M) → Core M
  reached_by w es = core_after M (opening M w) es

  -- all that was taken
  abbrev pub runs_after : List (CoreStep M) → ℕ → List (Item M)
  runs_after es = taken_after M (λ r. []) es

  pub inv_after : IsLawful M → (w : World M) (horizon : ℕ) (es : List (CoreStep M)) → IsOpening M w → IsSchedule M horizon (opening M w) es → Inv M horizon w (reached_by w es) (runs_after es)
  inv_after law w horizon es o x = inv_all M law w horizon es (opening M w) (λ r. []) (inv_opening M horizon w o) x

  -- the items of a core and of the simulation are the same, as far as both go
  pub both_take : IsLawful M → (w : World M) (range horizon : ℕ) (is : List (Item M)) (c : Core M) (runs : ℕ → List (Item M)) (v : Inv M range w c runs) → IsOpening M w → Simulation M w horizon is →
      (s : Story M w horizon is) (r t : ℕ) → t ≤ max (passed M (c r)) v.m → t ≤ s.family.bound r → cut M t (runs r) ≡ cut M t (at M r is)
  both_take law w range horizon is c runs v o x s r t a b =
      let kn = known M law range w c runs v in
      let n = min (kn.family.bound r) (s.family.bound r) in
      let e = kn.bound_is r in
      let u : cut M n (kn.family.runs r) ≡ cut M n (s.family.runs r) = family_unique M law (view M w) kn.family s.family r in
      let p : cut M n (runs r) ≡ cut M n (at M r is) = ap (λ z. cut M n z) (sym (kn.runs_are r)) ∙ u ∙ ap (λ z. cut M n z) (s.runs_are r) in
      sym (cut_cut M t n (runs r) (omega arith)) ∙ ap (λ z. cut M t z) p ∙ cut_cut M t n (at M r is) (omega arith)

  pub passed_live : (s : Member M) → s.state.stop ≡ None → passed M s ≡ s.clock
  passed_live s e = ap (λ z. done_of z s.clock) e

  -- Any schedule: a resource that has not stopped is at its history for its clock
  pub at_history : IsLawful M → (w : World M) (horizon : ℕ) (is : List (Item M)) (es : List (CoreStep M)) → IsOpening M w → Simulation M w horizon is → IsSchedule M horizon (opening M w) es → (r : ℕ) →
      (reached_by w es r).state.stop ≡ None → IsCovered M horizon is r (reached_by w es r).clock →
      (runs_after es r ≡ taken_at M is r (reached_by w es r).clock) × IsSameAt M r (reached_by w es r).state (left_at M w is r (reached_by w es r).clock) × ((reached_by w es r).lines ≡ lines_of M (taken_at M is r (reached_by w es r).clock))
  at_history law w horizon is es o x sc r live h =
      let c = reached_by w es in
      let t = (c r).clock in
      let v = inv_after law w horizon es o sc in
      let a = v.each r in
      let s = story M law w horizon is o x in
      let p = passed_live (c r) live in
      let all : cut M t (runs_after es r) ≡ runs_after es r = cut_all M t (runs_after es r) (each_map _ _ (runs_after es r) (λ (i : Item M) (b : i.key.tick < passed M (c r)). omega arith) a.below) in
      let e : runs_after es r ≡ taken_at M is r t = sym all ∙ both_take law w horizon horizon is c (runs_after es) v o x s r t (omega arith) (covered_bound M w horizon is s r t h) ∙ sym (at_cut M law r t is w x.chain) in
      let hi = history_is M law w is o x.chain r t (mail M v.sent) in
      let f : end M (start M (view M w r) (mail M v.sent)) (runs_after es r) ≡ end M (start M (view M w r) (mail M v.sent)) (taken_at M is r t) = ap (λ z. end M (start M (view M w r) (mail M v.sent)) z) e in (
        e,
        record {
          part = (a.state 0).part ∙ ap (λ z. z.part) f ∙ hi.part;
          own = λ k q. (a.state (k.tick + 1)).own k q (omega arith) ∙ ap (λ z. z.own k) f ∙ hi.own k q;
          stop = (a.state 0).stop ∙ ap (λ z. z.stop) f ∙ hi.stop;
        },
        a.said ∙ ap (λ z. lines_of M z) e,
      )

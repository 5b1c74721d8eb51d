-- The bounds of a core at the resources that represent it.
use Rattle.fb_window.proofs.lemmas.Common.{◌≡◌, ℕ, ◌^◌, ◌<◌, ◌≤◌, Option, None, List, sym, ap, ◌∙◌, ⊎_elim, arith, option_map, cases_lt, slice_get_within, Inputs, system_of, stimuli_of, Machine, machine, count_of, opening, Core, CoreStep, opening_core, IsSchedule, AreGood, IsSound, Resource, World, core_of, KeepHorizon, IsAt, Loan, AreLegal}
use Rattle.fb_types.proofs.lemmas.lists.Lookups.{none_some, none_since}
use Rattle.fb_laws.proofs.lemmas.soundness.Accepting.{sound_of}
use Rattle.fb_net.specs.Events.{event_of}
use Rattle.fb_laws.proofs.lemmas.resources.OwnPart.{lawful}
use Rattle.fb_laws.proofs.lemmas.machine.Bridge.{world_of}
use Rattle.fb_laws.proofs.lemmas.machine.Opening.{is_opening}
use Rattle.fb_window.specs.Bounding.{AreGreatest}
use Rattle.fb_window.specs.Jobs.{MayLeave}
use Rattle.fb_laws.specs.Phases.{IsPhase}
use Rattle.fb_window.specs.Settling.{AreLoans}
use Rattle.fb_laws.proofs.lemmas.schedules.AtHome.{clock_legal, clock_in_range}
use Rattle.fb_types.proofs.lemmas.lists.ByIndex.{element_at}
use Rattle.fb_window.proofs.lemmas.bounds.Bounding.{IsCoreOf, AreComputed, greatest}
use Rattle.fb_window.proofs.lemmas.phases.Passes.{clock_of, stop_of, Rests}
use Rattle.fb_laws.proofs.lemmas.schedules.Keeps.{Inv}
use Rattle.fb_laws.proofs.lemmas.schedules.Phasing.{IsRound, is_round}
use Rattle.fb_laws.proofs.lemmas.schedules.Reached.{inv_after, runs_after}

module _ (i : Inputs) (limit : ℕ) (c : Core (machine (system_of i) limit)) (xs : List Resource) (at : IsAt i limit c xs) where
  pub core_is : IsCoreOf clock_of stop_of Rests (system_of i) limit c xs
  core_is = record {
    counted = at.counted;
    clocks = λ r x e. (at.each r x e).clock;
    stops = λ r x e. (at.each r x e).state.stop;
    rests = λ r x e t h k f b. let s = at.each r x e in s.state.waits k (f ∙ sym s.number) ∙ ap (λ o. option_map (event_of i) o) (h k b);
    idle = λ r x e t h j b.
        let s = at.each r x e in
        none_since _ (λ v w.
        let home : j.resource ≡ x.tree.resource = s.of.home j v w in
        none_some _ _ (sym (s.state.waits j home) ∙ h j (home ∙ s.number) b) (ap (λ o. option_map (event_of i) o) w));
    posted = λ r. ⊎_elim (λ b. let e = at.counted in let s = element_at xs r (omega arith) in (at.each r s.0 s.1).posted) (λ b. (at.others r b).posted) (cases_lt r (count_of (system_of i)));
    live = λ r b. (at.others r b).live;
    quiet = λ r b k e. (at.others r b).waits k e;
  }

  pub home : (r : ℕ) → (c r).out ≡ None
  home r = ⊎_elim (λ b. let e = at.counted in let s = element_at xs r (omega arith) in (at.each r s.0 s.1).home) (λ b. (at.others r b).home) (cases_lt r (count_of (system_of i)))

module _ (i : Inputs) (good : AreGood i) (limit horizon : ℕ) (es : List (CoreStep (machine (system_of i) limit)))
    (sc : IsSchedule (machine (system_of i) limit) horizon (opening_core (system_of i) (stimuli_of i) limit) es) where
  abbrev M : Machine
  M = machine (system_of i) limit

  abbrev sound : IsSound (system_of i)
  sound = sound_of i good

  abbrev w : World (machine (system_of i) limit)
  w = world_of (system_of i) (sound_of i good) limit (opening (system_of i) (stimuli_of i)) (λ r. None)

  pub kept_by : Inv M horizon w (core_of i limit es) (runs_after M es)
  kept_by = inv_after M (lawful (system_of i) sound limit) w horizon es (is_opening (system_of i) sound limit (stimuli_of i)) sc

  module _ (xs : List Resource) (at : IsAt i limit (core_of i limit es) xs) where
    at_home : (r : ℕ) → (core_of i limit es r).out ≡ None
    at_home = home i limit (core_of i limit es) xs at

    -- no clock is past the horizon
    pub clock_within : (r : ℕ) → (core_of i limit es r).clock ≤ horizon
    clock_within r = clock_in_range M (lawful (system_of i) sound limit) horizon w (core_of i limit es) (runs_after M es) kept_by r (at_home r)

    -- The computed bounds are the greatest, whatever the schedule that the core has come by, and its horizon.
    pub are_greatest : (to cap : ℕ) → 1 ≤ cap → (all : List ℕ) → AreComputed clock_of stop_of Rests (system_of i) to cap xs all
        → AreGreatest (system_of i) limit to cap (core_of i limit es) all
    are_greatest to cap few all computed =
        greatest clock_of stop_of Rests (system_of i) sound limit to cap few (core_of i limit es) xs all (core_is i limit (core_of i limit es) xs at) computed
        (λ r b. clock_legal M (lawful (system_of i) sound limit) horizon w (core_of i limit es) (runs_after M es) kept_by r (at_home r))

    -- So each resource may leave with its bound, where all clocks keep the horizon.
    pub are_legal : (to cap : ℕ) (all : List ℕ) → KeepHorizon to xs → AreGreatest (system_of i) limit to cap (core_of i limit es) all → AreLegal i limit to (core_of i limit es) all
    are_legal to cap all keep g = record {
      legal = λ r b live. (g r b).legal;
      not_back = λ r b live. (g r b).not_back;
      in_range = λ r b live.
          ⊎_elim
          (λ e.
          let n = at.counted in
          let x = element_at xs r (omega arith) in
          let c : (core_of i limit es r).clock ≡ x.0.clock = (at.each r x.0 x.1).clock in
          let k = (keep r x.0 x.1).0 in
          omega arith)
          (λ h. h.0.in_range)
          (g r b).in_range;
    }

    pub may_leave : (to : ℕ) (all : List ℕ) → to ≤ 10 ^ 12 → AreLegal i limit to (core_of i limit es) all → MayLeave all xs
    may_leave to all early legal r x s live =
        let m = at.each r x s in
        let n : (core_of i limit es r).state.stop ≡ None = m.state.stop ∙ live in
        let c : (core_of i limit es r).clock ≡ x.clock = m.clock in
        let e = at.counted in
        let b : r < count_of (system_of i) = let h = slice_get_within xs r x s in omega arith in
        let low = legal.not_back r b n in
        let high = legal.in_range r b n in
        (omega arith, omega arith)

    -- ---- The phase

    -- The loans in any order, and the exchange after them, are steps of the core.
    pub is_round_of : (bounds : List ℕ) (workers : ℕ → ℕ) (loans : ℕ → Option (Loan (machine (system_of i) limit))) → AreLoans i limit horizon (core_of i limit es) bounds workers loans
        → (fs : List (CoreStep (machine (system_of i) limit))) → IsPhase (machine (system_of i) limit) loans fs
        → IsRound (machine (system_of i) limit) horizon (opening_core (system_of i) (stimuli_of i) limit) es fs loans
    is_round_of bounds workers loans t fs phase =
        is_round M (lawful (system_of i) sound limit) horizon w (opening_core (system_of i) (stimuli_of i) limit) es fs (runs_after M es) loans sc kept_by at_home t.may phase

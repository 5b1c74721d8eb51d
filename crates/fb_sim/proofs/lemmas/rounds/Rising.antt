-- While a run goes on, some event comes before the horizon, and the least tick of all events rises in each round.
use Rattle.fb_sim.proofs.lemmas.Common.{◌≡◌, ℕ, zero, suc, ◌+◌, ◌<◌, ◌≤◌, Option, Some, None, List, refl, sym, ap, ◌∙◌, subst, inl, inr, ⊎_elim, arith, cases_lt, Inputs, system_of, stimuli_of, Machine, machine, count_of, CoreStep, opening_core, IsSchedule, IsAtHorizon, opening, Reason, AreGood, Resource, core_of, IsAt}
use Rattle.fb_types.proofs.Common.{◌⊎◌, min, slice_index_or, Core, Member, IsFloor, exchanged, IsLeastStop}
use Rattle.fb_types.proofs.lemmas.lists.Lookups.{none_some, option_cases}
use Rattle.fb_laws.proofs.lemmas.soundness.Accepting.{sound_of}
use Rattle.fb_laws.specs.Worlds.{World}
use Rattle.fb_laws.proofs.lemmas.machine.Bridge.{world_of}
use Rattle.fb_laws.proofs.lemmas.resources.OwnPart.{lawful}
use Rattle.fb_window.specs.Bounding.{AreGreatest, IsInReach}
use Rattle.fb_laws.specs.Phases.{Loan, IsPhase, after_loan}
use Rattle.fb_window.specs.Settling.{AreLoans, HasRisen, after_phase}
use Rattle.fb_laws.proofs.lemmas.schedules.AtHome.{has_returned, rises_or_stops, stop_in_range}
use Rattle.fb_window.proofs.lemmas.bounds.BoundsAre.{clock_within, home, is_round_of, kept_by}
use Rattle.fb_laws.proofs.lemmas.schedules.Phasing.{IsRound, after_loans}
use Rattle.fb_laws.proofs.lemmas.schedules.Reached.{runs_after}
use Rattle.fb_sim.specs.Rounds.{Rises}

-- ---- How far all may go

module _ (M : Machine) (c : Core M) where
  -- The greatest tick up to the top that is at most one past the tick of each stop of this many resources.
  pub record IsReach (n top : ℕ) : Type 0 where
    pub tick : ℕ
    pub within : tick ≤ top
    pub stops : (s : ℕ) (reason : M.Reason) → s < n → (c s).state.stop ≡ Some reason → tick ≤ (c s).clock + 1
    pub cut : (tick ≡ top) ⊎ ((s : ℕ) × (reason : M.Reason) × ((c s).state.stop ≡ Some reason) × (s < n) × (tick ≡ (c s).clock + 1))

  -- one more that has not stopped,
  past_live : (n top : ℕ) → IsReach n top → (c n).state.stop ≡ None → IsReach (suc n) top
  past_live n top x live = record {
    tick = x.tick;
    within = x.within;
    stops = λ s reason b e.
        ⊎_elim (λ l. x.stops s reason l e)
        (λ l. let same : s ≡ n = omega arith in absurd (none_some _ _ (ap (λ z. (c z).state.stop) same ∙ live) e))
        (cases_lt s n);
    cut = ⊎_elim (λ e. inl e) (λ q. inr (q.0, q.1, q.2, (let b = q.3 in omega arith), q.4)) x.cut;
  }

  -- and one more that has
  past_stop : (n top : ℕ) → IsReach n top → (reason : M.Reason) → (c n).state.stop ≡ Some reason → IsReach (suc n) top
  past_stop n top x reason e =
      ⊎_elim
      (λ (b : (c n).clock + 1 < x.tick).
      let low = x.within in
      record {
        tick = (c n).clock + 1;
        within = omega arith;
        stops = λ s other d f.
            ⊎_elim (λ l. let h = x.stops s other l f in omega arith)
            (λ l. let same : n ≡ s = omega arith in let g : (c n).clock ≡ (c s).clock = ap (λ z. (c z).clock) same in omega arith)
            (cases_lt s n);
        cut = inr (n, reason, e, omega arith, refl);
      })
      (λ (b : x.tick ≤ (c n).clock + 1).
      record {
        tick = x.tick;
        within = x.within;
        stops = λ s other d f.
            ⊎_elim (λ l. x.stops s other l f)
            (λ l. let same : n ≡ s = omega arith in let g : (c n).clock ≡ (c s).clock = ap (λ z. (c z).clock) same in omega arith)
            (cases_lt s n);
        cut = ⊎_elim (λ g. inl g) (λ q. inr (q.0, q.1, q.2, (let l = q.3 in omega arith), q.4)) x.cut;
      })
      (cases_lt ((c n).clock + 1) x.tick)

  pub reach : (n top : ℕ) → IsReach n top
  reach zero top = record { tick = top; within = omega arith; stops = λ s reason b e. absurd (omega arith); cut = inl refl }
  reach (suc n) top = ⊎_elim (λ live. past_live n top (reach n top) live) (λ q. past_stop n top (reach n top) q.0 q.1) (option_cases (c n).state.stop)

-- ---- A round

module _ (i : Inputs) (good : AreGood i) (limit horizon : ℕ) (es : List (CoreStep (machine (system_of i) limit)))
    (sc : IsSchedule (machine (system_of i) limit) horizon (opening_core (system_of i) (stimuli_of i) limit) es)
    (xs : List Resource) (at : IsAt i limit (core_of i limit es) xs) (cap : ℕ) (bounds : List ℕ) (greatest : AreGreatest (system_of i) limit horizon cap (core_of i limit es) bounds)
    (workers : ℕ → ℕ) (loans : ℕ → Option (Loan (machine (system_of i) limit))) (t : AreLoans i limit horizon (core_of i limit es) bounds workers loans)
    (fs : List (CoreStep (machine (system_of i) limit))) (phase : IsPhase (machine (system_of i) limit) loans fs)
    (ys : List Resource) (back : IsAt i limit (core_of i limit (after_phase i limit es fs)) ys)
    (unended : IsAtHorizon (machine (system_of i) limit) (count_of (system_of i)) horizon (core_of i limit (after_phase i limit es fs)) → ⊥)
    (goes : (s : ℕ) (reason : Reason) → IsLeastStop (machine (system_of i) limit) (count_of (system_of i)) (core_of i limit (after_phase i limit es fs)) s reason → ⊥)
    (risen : HasRisen i limit (core_of i limit es) (core_of i limit (after_phase i limit es fs)) bounds) where
  abbrev M : Machine
  M = machine (system_of i) limit

  abbrev count : ℕ
  count = count_of (system_of i)

  abbrev w : World (machine (system_of i) limit)
  w = world_of (system_of i) (sound_of i good) limit (opening (system_of i) (stimuli_of i)) (λ r. None)

  abbrev c : Core (machine (system_of i) limit)
  c = core_of i limit es

  -- after the loans, before the exchange
  abbrev e : Core (machine (system_of i) limit)
  e = after_loans (machine (system_of i) limit) (core_of i limit es) loans

  abbrev d : Core (machine (system_of i) limit)
  d = core_of i limit (after_phase i limit es fs)

  round : IsRound (machine (system_of i) limit) horizon (opening_core (system_of i) (stimuli_of i) limit) es fs loans
  round = is_round_of i good limit horizon es sc xs at bounds workers loans t fs phase

  clock_same : (r : ℕ) → (d r).clock ≡ (e r).clock
  clock_same r = ap (λ (z : Core M). (z r).clock) round.comes_to

  rest : (r : ℕ) → loans r ≡ None → e r ≡ c r
  rest r none = ap (λ o. after_loan M (c r) o) none

  quiet : (r : ℕ) → count_of (system_of i) ≤ r → (e r).state.stop ≡ None
  quiet r b = ap (λ (s : Member M). s.state.stop) (rest r (t.others r b)) ∙ (at.others r b).live

  module _ (m : ℕ) (floor : IsFloor (machine (system_of i) limit) (core_of i limit es) m) where
    x : IsReach (machine (system_of i) limit) (core_of i limit es) (count_of (system_of i)) (min horizon (m + 1))
    x = reach M c count (min horizon (m + 1))

    in_reach : IsInReach (machine (system_of i) limit) horizon (core_of i limit es) x.tick
    in_reach = record {
      in_range = let b = x.within in omega arith;
      stops = λ s reason stop. ⊎_elim (λ b. x.stops s reason b stop) (λ b. absurd (none_some _ _ (at.others s b).live stop)) (cases_lt s count);
    }

    -- each bound is as far
    over : (r : ℕ) → r < count_of (system_of i) → (core_of i limit es r).state.stop ≡ None → x.tick ≤ slice_index_or bounds r 0
    over r b live = (greatest r b).over m x.tick floor (let h = x.within in omega arith) in_reach

    -- and so is each clock after the loans,
    past : (r : ℕ) → r < count_of (system_of i) → (e r).state.stop ≡ None → x.tick ≤ (e r).clock
    past r b none =
        ⊎_elim
        (λ live. let run = t.live r b live in
        let loan : Loan M = record { worker = workers r; bound = slice_index_or bounds r 0; run = run.0 } in
        let same : e r ≡ after_loan M (c r) (Some loan) = ap (λ o. after_loan M (c r) o) run.1 in
        let h = has_returned M (lawful (system_of i) (sound_of i good) limit) horizon w c (runs_after M es) (kept_by i good limit horizon es sc) m r loan floor (t.may r loan run.1) in
        let to : (after_loan M (c r) (Some loan)).clock ≡ loan.bound = h.live (sym (ap (λ (s : Member M). s.state.stop) same) ∙ none) in
        let clock : (e r).clock ≡ (after_loan M (c r) (Some loan)).clock = ap (λ (s : Member M). s.clock) same in
        let g : x.tick ≤ loan.bound = over r b live in
        omega arith)
        (λ q. absurd (none_some _ _ none (ap (λ (s : Member M). s.state.stop) (rest r (t.stopped r q.0 q.1)) ∙ q.1)))
        (option_cases (c r).state.stop)

    -- of those that have stopped as well, since else there were a least stop.
    clocks : (r : ℕ) → r < count_of (system_of i) → x.tick ≤ (e r).clock
    clocks =
        ⊎_elim (λ h. h)
        (λ s. let l = s.2 in
        let least : IsLeastStop M count (exchanged M e) s.0 s.1 = record { counted = l.counted; stopped = l.stopped; least = l.least; passed = l.passed } in
        absurd (goes s.0 s.1 (subst (λ (z : Core M). IsLeastStop M count z s.0 s.1) (sym round.comes_to) least)))
        (rises_or_stops M count x.tick e past quiet)

    -- At the horizon none has stopped.
    ends : x.tick ≡ horizon → ⊥
    ends at_end = unended (record {
      live = live;
      clocks = λ r b.
          let low = clock_within i good limit horizon (after_phase i limit es fs) round.schedule ys back r in
          let high = clocks r b in
          let same = clock_same r in
          omega arith;
    })
      where
        live : (r : ℕ) → r < count_of (system_of i) → (d r).state.stop ≡ None
        live r b =
            ⊎_elim (λ none. none)
            (λ q. let low = stop_in_range M (lawful (system_of i) (sound_of i good) limit) horizon w d (runs_after M (after_phase i limit es fs))
            (kept_by i good limit horizon (after_phase i limit es fs) round.schedule) r q.0 (home i limit d ys back r) q.1 in
            let high = clocks r b in
            let same = clock_same r in
            absurd (omega arith))
            (option_cases (d r).state.stop)

    -- No stop is in the way: who has stopped stays where it is.
    free : (s : ℕ) (reason : Reason) → (c s).state.stop ≡ Some reason → s < count_of (system_of i) → x.tick ≡ (c s).clock + 1 → ⊥
    free s reason stop b is =
        let same : (e s).clock ≡ (c s).clock = ap (λ (z : Member M). z.clock) (rest s (t.stopped s reason stop)) in
        let high = clocks s b in
        omega arith

    pub rises_on : (m < horizon) × IsFloor (machine (system_of i) limit) (core_of i limit (after_phase i limit es fs)) (m + 1)
    rises_on =
        ⊎_elim
        (λ (top : x.tick ≡ min horizon (m + 1)). ⊎_elim
        (λ (b : m < horizon). (b, risen m floor (λ r n live. let h = over r n live in omega arith)))
        (λ (b : horizon ≤ m). absurd (ends (omega arith)))
        (cases_lt m horizon))
        (λ q. absurd (free q.0 q.1 q.2 q.3 q.4))
        x.cut

  pub rises : Rises i limit horizon (core_of i limit es) (core_of i limit (after_phase i limit es fs))
  rises m floor = rises_on m floor

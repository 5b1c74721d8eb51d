-- Schedules that keep a horizon, and what a core keeps of them in its type.
use Rattle.fb_window.proofs.lemmas.Common.{◌≡◌, ℕ, ◌^◌, ◌+◌, ◌≤◌, All, Some, None, List, [], ◌∷◌, length, sym, ap, ◌∙◌, subst, ⊎_elim, refl, arith, Vec, cases_lt, Inputs, system_of, stimuli_of, Machine, machine, count_of, opening, Core, CoreStep, Member, opening_core, IsSchedule, core_after, Line, BelongsTo, Resource, core_of, AreGood, IsSound, World, IsOpening, AreLegal, HasLeft, IsReached, KeepHorizon, IsAt, Leads, Single, AwayState, CoreState}
use Rattle.fb_types.proofs.Common.{Lend, done, returned}
use Rattle.fb_types.proofs.lemmas.lists.ByIndex.{element_at}
use Rattle.fb_types.proofs.lemmas.lists.Lookups.{option_cases}
use Rattle.fb_laws.proofs.lemmas.soundness.Accepting.{sound_of}
use Rattle.fb_laws.proofs.lemmas.schedules.AtHome.{clock_in_range, stop_in_range}
use Rattle.fb_laws.proofs.lemmas.machine.Bridge.{world_of}
use Rattle.fb_laws.proofs.lemmas.resources.Global.{with_at_other}
use Rattle.fb_laws.proofs.lemmas.schedules.Keeps.{Inv, done_of, passed}
use Rattle.fb_laws.proofs.lemmas.machine.Opening.{is_opening}
use Rattle.fb_laws.proofs.lemmas.resources.OwnPart.{lawful}
use Rattle.fb_laws.proofs.lemmas.schedules.Phasing.{after_append}
use Rattle.fb_laws.proofs.lemmas.schedules.Reached.{inv_after, runs_after}
use Rattle.fb_window.specs.Jobs.{MayLeave}
use Rattle.fb_window.specs.Reached.{IsAway, IsBrought, MayGo}
use Rattle.fb_window.specs.Reaching.{OfEachCore}
use Rattle.fb_window.specs.ManyTurns.{AreSingle, IsSingle, TakesTurns, after_series, single_steps, series_steps}
use Rattle.fb_window.proofs.lemmas.bounds.BoundsAre.{home, may_leave}
use Rattle.fb_window.proofs.lemmas.bounds.LongerSchedules.{schedule_within, steps_within}

module _ (i : Inputs) (good : AreGood i) (limit : ℕ) (xs : List Resource) where
  abbrev M : Machine
  M = machine (system_of i) limit

  abbrev sound : IsSound (system_of i)
  sound = sound_of i good

  abbrev w : World (machine (system_of i) limit)
  w = world_of (system_of i) (sound_of i good) limit (opening (system_of i) (stimuli_of i)) (λ r. None)

  opens : IsOpening (machine (system_of i) limit) w
  opens = is_opening (system_of i) sound limit (stimuli_of i)

  -- A schedule to a horizon keeps it.
  pub keeps : (horizon : ℕ) (es : List (CoreStep (machine (system_of i) limit))) → IsSchedule (machine (system_of i) limit) horizon (opening_core (system_of i) (stimuli_of i) limit) es
      → IsAt i limit (core_of i limit es) xs → KeepHorizon horizon xs
  keeps horizon es sc at r x e =
      let v : Inv M horizon w (core_of i limit es) (runs_after M es) = inv_after M (lawful (system_of i) sound limit) w horizon es opens sc in
      let m = at.each r x e in
      let same : (core_of i limit es r).clock ≡ x.clock = m.clock in
      let within = clock_in_range M (lawful (system_of i) sound limit) horizon w (core_of i limit es) (runs_after M es) v r m.home in (
        omega arith,
        λ reason s.
            let below = stop_in_range M (lawful (system_of i) sound limit) horizon w (core_of i limit es) (runs_after M es) v r reason m.home (m.state.stop ∙ s) in
            omega arith,
      )

  -- A schedule to a horizon that leads to the core to which these steps lead.
  pub record LeadsWithin (horizon : ℕ) (es : List (CoreStep (machine (system_of i) limit))) : Type 0 where
    pub steps : List (CoreStep (machine (system_of i) limit))
    pub schedule : IsSchedule (machine (system_of i) limit) horizon (opening_core (system_of i) (stimuli_of i) limit) steps
    pub same : core_of i limit steps ≡ core_of i limit es

  -- Whatever the horizon of the schedule: there is one to each horizon that its clocks keep.
  pub leads_within : (range horizon : ℕ) (es : List (CoreStep (machine (system_of i) limit))) → IsSchedule (machine (system_of i) limit) range (opening_core (system_of i) (stimuli_of i) limit) es
      → IsAt i limit (core_of i limit es) xs → ((r : ℕ) → count_of (system_of i) ≤ r → (core_of i limit es r).clock ≡ 0) → KeepHorizon horizon xs → LeadsWithin horizon es
  leads_within range horizon es sc at idle keep =
      let is = schedule_within M horizon (lawful (system_of i) sound limit) w range opens es sc (home i limit (core_of i limit es) xs at) kept in
      record { steps = steps_within M horizon es; schedule = is.0; same = is.1 }
    where
      kept : (r : ℕ) → passed (machine (system_of i) limit) (core_of i limit es r) ≤ horizon
      kept r =
          ⊎_elim
          (λ b.
          let counted = at.counted in
          let x = element_at xs r (omega arith) in
          let m = at.each r x.0 x.1 in
          let same : (core_of i limit es r).clock ≡ x.0.clock = m.clock in
          let k = keep r x.0 x.1 in
          ⊎_elim
          (λ e.
          let p : passed M (core_of i limit es r) ≡ (core_of i limit es r).clock = ap (λ o. done_of o (core_of i limit es r).clock) (m.state.stop ∙ e) in
          let b = k.0 in
          omega arith)
          (λ q.
          let p : passed M (core_of i limit es r) ≡ (core_of i limit es r).clock + 1 = ap (λ o. done_of o (core_of i limit es r).clock) (m.state.stop ∙ q.1) in
          let b = k.1 q.0 q.1 in
          omega arith)
          (option_cases x.0.stopped))
          (λ b.
          let p : passed M (core_of i limit es r) ≡ (core_of i limit es r).clock = ap (λ o. done_of o (core_of i limit es r).clock) (at.others r b).live in
          let z = idle r b in
          omega arith)
          (cases_lt r (count_of (system_of i)))

  -- what represents the resources there
  pub at_within : (horizon : ℕ) (es : List (CoreStep (machine (system_of i) limit))) (to : LeadsWithin horizon es) → IsAt i limit (core_of i limit es) xs → IsAt i limit (core_of i limit to.steps) xs
  at_within horizon es to at = subst (λ (c : Core M). IsAt i limit c xs) (sym to.same) at

  pub idle_within : (horizon : ℕ) (es : List (CoreStep (machine (system_of i) limit))) (to : LeadsWithin horizon es) → ((r : ℕ) → count_of (system_of i) ≤ r → (core_of i limit es r).clock ≡ 0)
      → (r : ℕ) → count_of (system_of i) ≤ r → (core_of i limit to.steps r).clock ≡ 0
  idle_within horizon es to idle = subst (λ (c : Core M). (r : ℕ) → count_of (system_of i) ≤ r → (c r).clock ≡ 0) (sym to.same) idle

-- ---- A series of turns

module _ (M : Machine) (count : ℕ) where
  -- turns move no member past the last one
  single_idle : (c : Core M) (t : Single M) → IsSingle M count c t → (r : ℕ) → count ≤ r → (core_after M c (single_steps M t) r).clock ≡ (c r).clock
  single_idle c t one r b =
      let apart : r ≡ t.resource → ⊥ = λ e. let n = one.counted in absurd (omega arith) in
      let out : Core M = done M c (Lend 0 t.resource t.bound) in
      ap (λ (m : Member M). m.clock)
      (with_at_other t.resource (returned M (out t.resource) t.run) out r apart ∙ with_at_other t.resource (record (c t.resource) { out = Some (0, t.bound) }) c r apart)

  singles_idle : (ts : List (Single M)) (c : Core M) → AreSingle M count c ts → (r : ℕ) → count ≤ r → (core_after M c (series_steps M ts) r).clock ≡ (c r).clock
  singles_idle [] c all r b = refl
  singles_idle (t ∷ ts) c all r b = singles_idle ts (core_after M c (single_steps M t)) all.1 r b ∙ single_idle c t all.0 r b

pub brought_on : (i : Inputs) (limit horizon : ℕ) (es : List (CoreStep (machine (system_of i) limit))) (before after : CoreState) (ts : List (Single (machine (system_of i) limit)))
    → Leads i limit horizon es before after ts → ((r : ℕ) → count_of (system_of i) ≤ r → (core_of i limit es r).clock ≡ 0) → IsBrought i limit after.resources.items
brought_on i limit horizon es before after ts leads idle = record {
  range = horizon;
  steps = after_series i limit es ts;
  schedule = leads.schedule;
  at = leads.at;
  idle = λ r b.
      ap (λ (c : Core (machine (system_of i) limit)). (c r).clock) (after_append (machine (system_of i) limit) es (series_steps (machine (system_of i) limit) ts) (opening_core (system_of i) (stimuli_of i) limit))
      ∙ singles_idle (machine (system_of i) limit) (count_of (system_of i)) ts (core_of i limit es) leads.singles r b ∙ idle r b;
}

-- ---- What is said of any schedule, said of the core

module _ (s : CoreState) (good : AreGood s.system) (reached : IsReached s) where
  module _ (horizon : ℕ) (keep : KeepHorizon horizon s.resources.items) where
    -- a schedule to this horizon
    led : LeadsWithin s.system good s.steps s.resources.items horizon reached.way.steps
    led = leads_within s.system good s.steps s.resources.items reached.way.range horizon reached.way.steps reached.way.schedule reached.way.at reached.way.idle keep

    led_at : IsAt s.system s.steps (core_of s.system s.steps led.steps) s.resources.items
    led_at = at_within s.system good s.steps s.resources.items horizon reached.way.steps led reached.way.at

    pub come : (es : List (CoreStep (machine (system_of s.system) s.steps)))
        × IsSchedule (machine (system_of s.system) s.steps) horizon (opening_core (system_of s.system) (stimuli_of s.system) s.steps) es
        × IsAt s.system s.steps (core_of s.system s.steps es) s.resources.items
    come = (led.steps, led.schedule, led_at)

    module _ (bounds : List ℕ) (legal : OfEachCore s.system s.steps s.resources.items (λ c. AreLegal s.system s.steps horizon c bounds)) where
      pub leave : horizon ≤ 10 ^ 12 → MayLeave bounds s.resources.items
      leave early =
          may_leave s.system good s.steps horizon led.steps led.schedule s.resources.items led_at horizon bounds early (legal horizon led.steps led.schedule led_at)

      may_go : MayGo s.system s.steps horizon s.resources.items bounds
      may_go = record {
        steps = led.steps;
        schedule = led.schedule;
        at = led_at;
        idle = idle_within s.system good s.steps s.resources.items horizon reached.way.steps led reached.way.idle;
        legal = legal horizon led.steps led.schedule led_at;
      }

      -- What remains when the resources leave.
      pub is_away : (a : AwayState) → a.system ≡ s.system → a.steps ≡ s.steps → a.horizon ≡ horizon → a.pending ≡ s.pending → HasLeft s.resources.items bounds a → IsAway a
      is_away a system steps to pending left = record {
        resources = s.resources.items;
        bounds = bounds;
        left = left;
        way =
            subst (λ (j : Inputs). MayGo j a.steps a.horizon s.resources.items bounds) (sym system)
            (subst (λ (n : ℕ). MayGo s.system n a.horizon s.resources.items bounds) (sym steps)
            (subst (λ (n : ℕ). MayGo s.system s.steps n s.resources.items bounds) (sym to) may_go));
        some_steps = subst (λ (n : ℕ). 1 ≤ n) (sym steps) reached.some_steps;
        few_steps = subst (λ (n : ℕ). n ≤ 10 ^ 7) (sym steps) reached.few_steps;
        counted = ap (λ (ps : Vec (Vec Line)). length ps.items) pending ∙ reached.counted;
        belong =
            subst (λ (j : Inputs). All (λ (p : Vec Line). All (BelongsTo (system_of j)) p.items) a.pending.items) (sym system)
            (subst (λ (ps : Vec (Vec Line)). All (λ (p : Vec Line). All (BelongsTo (system_of s.system)) p.items) ps.items) (sym pending) reached.belong);
      }

    -- The core after a series of turns.
    pub is_reached : (most : ℕ) (d : CoreState) → d.system ≡ s.system → d.steps ≡ s.steps → length d.pending.items ≡ length d.resources.items
        → All (λ (p : Vec Line). All (BelongsTo (system_of s.system)) p.items) d.pending.items → TakesTurns s.system s.steps horizon most s d → IsReached d
    is_reached most d system steps counted belong takes_turns =
        let on = takes_turns led.steps led.schedule led_at in
        let way : IsBrought s.system s.steps d.resources.items =
        brought_on s.system s.steps horizon led.steps s d on.0 on.1 (idle_within s.system good s.steps s.resources.items horizon reached.way.steps led reached.way.idle) in
        record {
          way =
              subst (λ (j : Inputs). IsBrought j d.steps d.resources.items) (sym system)
              (subst (λ (n : ℕ). IsBrought s.system n d.resources.items) (sym steps) way);
          some_steps = subst (λ (n : ℕ). 1 ≤ n) (sym steps) reached.some_steps;
          few_steps = subst (λ (n : ℕ). n ≤ 10 ^ 7) (sym steps) reached.few_steps;
          counted = counted;
          belong = subst (λ (j : Inputs). All (λ (p : Vec Line). All (BelongsTo (system_of j)) p.items) d.pending.items) (sym system) belong;
        }

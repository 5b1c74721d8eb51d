-- Schedules: lists of core steps, when they are complete, and the lines that are final (this project's profile).
use Rattle.std.specs.Prelude.{◌≡◌, ℕ, ◌<◌, ◌≤◌, ◌⊎◌, Some, None, List, [], ◌∷◌, ◌++◌}
use Rattle.fb_types.specs.Takes.{with_at}
use Rattle.fb_types.specs.Machines.{Machine, Item}
use Rattle.fb_types.specs.Cores.{Core, CoreStep, Lend, Give, Exchange, done, MayDo, floor}

module _ (M : Machine) where
  -- a list of steps, each when it may be done
  abbrev pub IsSchedule : (horizon : ℕ) → Core M → List (CoreStep M) → Type 0
  IsSchedule horizon c [] = Unit {0}
  IsSchedule horizon c (e ∷ es) = MayDo M horizon c e × IsSchedule horizon (done M c e) es

  -- the core after the steps
  abbrev pub core_after : Core M → List (CoreStep M) → Core M
  core_after c [] = c
  core_after c (e ∷ es) = core_after (done M c e) es

  -- all that each resource has taken
  abbrev pub taken_by : (ℕ → List (Item M)) → CoreStep M → ℕ → List (Item M)
  taken_by runs (Lend worker r bound) = runs
  taken_by runs (Give worker r is) = with_at r (runs r ++ is) runs
  taken_by runs Exchange = runs

  abbrev pub taken_after : (ℕ → List (Item M)) → List (CoreStep M) → ℕ → List (Item M)
  taken_after runs [] = runs
  taken_after runs (e ∷ es) = taken_after (taken_by runs e) es

  -- ---- Completeness

  -- no resource has stopped, and every clock is at the horizon
  pub record IsAtHorizon (count horizon : ℕ) (c : Core M) : Type 0 where
    pub live : (r : ℕ) → r < count → (c r).state.stop ≡ None
    pub clocks : (r : ℕ) → r < count → (c r).clock ≡ horizon

  -- The least stop by tick and resource, which the clock of each resource that has not stopped is past.
  pub record IsLeastStop (count : ℕ) (c : Core M) (s : ℕ) (reason : M.Reason) : Type 0 where
    pub counted : s < count
    pub stopped : (c s).state.stop ≡ Some reason
    pub least : (q : ℕ) (other : M.Reason) → (c q).state.stop ≡ Some other → ((c s).clock < (c q).clock) ⊎ (((c s).clock ≡ (c q).clock) × (s ≤ q))
    pub passed : (q : ℕ) → q < count → (c q).state.stop ≡ None → (c s).clock < (c q).clock

  -- ---- Final lines

  -- The lines of a resource at a tick are final when whatever another may still do comes later, by tick, then resource. The resource itself may have stopped at that tick.
  abbrev pub IsFinal : (count : ℕ) → Core M → (m tick resource : ℕ) → Type 0
  IsFinal count c m t r =
      (s : ℕ) → s < count
      → ((t < floor M c m s) ⊎ ((t ≡ floor M c m s) × (r < s)))
      ⊎ ((s ≡ r) × ((reason : M.Reason) × ((c s).state.stop ≡ Some reason)) × ((c s).clock ≡ t))

-- Phases: resources leave and come back in any order (this project's profile).
use Rattle.std.specs.Prelude.{◌≡◌, ℕ, ◌==◌, Bool, true, Option, Some, None, List, [], ◌∷◌}
use Rattle.std.specs.List.{filter}
use Rattle.fb_types.specs.Systems.{System}
use Rattle.fb_types.specs.Simulation.{Stimulus}
use Rattle.fb_types.specs.Machines.{Machine, Item, Run}
use Rattle.fb_types.specs.Parts.{machine}
use Rattle.fb_types.specs.Cores.{Member, Core, CoreStep, Lend, Give, Exchange, returned, MayLend}
use Rattle.fb_types.specs.Schedules.{IsSchedule, core_after}

-- A resource on loan in a phase: the worker that has it, its bound, and what it takes.
pub record Loan (M : Machine) : Type 0 where
  pub worker : ℕ
  pub bound : ℕ
  pub run : List (Item M)

module _ (M : Machine) where
  -- the steps of one resource; an exchange is a step of each
  abbrev pub is_step_of : (resource : ℕ) → CoreStep M → Bool
  is_step_of r (Lend worker q bound) = q == r
  is_step_of r (Give worker q run) = q == r
  is_step_of r Exchange = true

  abbrev pub steps_of : (resource : ℕ) → List (CoreStep M) → List (CoreStep M)
  steps_of r es = filter (is_step_of r) es

  -- the steps of a loan, if there is one
  abbrev pub loan_steps : (resource : ℕ) → Option (Loan M) → List (CoreStep M)
  loan_steps r None = []
  loan_steps r (Some t) = Lend t.worker r t.bound ∷ Give t.worker r t.run ∷ []

  -- The steps of the loans in some order in which each Give follows its Lend, and nothing else.
  abbrev pub IsPhase : (ℕ → Option (Loan M)) → List (CoreStep M) → Type 0
  IsPhase loans es = (r : ℕ) → steps_of r es ≡ loan_steps r (loans r)

  -- A loan is legal if the resource may leave with this bound, and runs by itself to it.
  pub record IsLegalLoan (horizon : ℕ) (c : Core M) (r : ℕ) (t : Loan M) : Type 0 where
    pub lend : MayLend M horizon c r t.bound
    pub run : Run M r (c r).state t.bound t.run

  -- what a resource is after its loan
  abbrev pub after_loan : Member M → Option (Loan M) → Member M
  after_loan s None = s
  after_loan s (Some t) = returned M (record s { out = Some (t.worker, t.bound) }) t.run

-- If each loan is legal, the steps in any order are a schedule, and all orders lead to one core.
pub record IsOrderFree (M : Machine) (horizon : ℕ) (c : Core M) (loans : ℕ → Option (Loan M)) (es : List (CoreStep M)) : Type 0 where
  pub schedule : IsSchedule M horizon c es
  pub comes_to : (r : ℕ) → core_after M c es r ≡ after_loan M (c r) (loans r)

abbrev pub HasPhases : (sys : System) → List Stimulus → (horizon limit : ℕ) → Core (machine sys limit) → (ℕ → List (Item (machine sys limit))) → Type 0
HasPhases sys stimuli horizon limit c runs =
    (loans : ℕ → Option (Loan (machine sys limit))) (es : List (CoreStep (machine sys limit)))
    → ((r : ℕ) (t : Loan (machine sys limit)) → loans r ≡ Some t → IsLegalLoan (machine sys limit) horizon c r t)
    → IsPhase (machine sys limit) loans es → IsOrderFree (machine sys limit) horizon c loans es

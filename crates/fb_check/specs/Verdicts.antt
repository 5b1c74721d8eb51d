-- How far the judgement of inputs is (this project's profile).
use Rattle.std.specs.Prelude.{ℕ, ◌<◌, List}
use Rattle.fb_types.specs.Accepted.{Applies, IsAccepted}
use Rattle.fb_types.specs.declared.library.Library.{Library}
use Rattle.fb_types.specs.declared.deploy.Plan.{Plan}
use Rattle.fb_types.specs.declared.deploy.Stimulus.{Stimulus}
use Rattle.fb_check.specs.declared.case.Case.{Case}

-- no number below m applies
abbrev pub Passes : (m : ℕ) → Library → Plan → List Stimulus → Type 0
Passes m lib plan stimuli = (n : ℕ) → n < m → ¬ (Applies n lib plan stimuli)

abbrev pub HasPassed : (m : ℕ) → Case → Type 0
HasPassed m c = Passes m c.library.now c.plan.now c.stimuli.now

abbrev pub AreAccepted : Case → Type 0
AreAccepted c = IsAccepted c.library.now c.plan.now c.stimuli.now

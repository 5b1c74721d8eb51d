-- What is said of a core by the resources that it has (this project's profile).
use Rattle.std.specs.Prelude.{ℕ, List}
use Rattle.fb_types.specs.Headline.{Inputs, system_of, stimuli_of}
use Rattle.fb_types.specs.Parts.{machine}
use Rattle.fb_types.specs.Cores.{Core, CoreStep, opening_core}
use Rattle.fb_types.specs.Schedules.{IsSchedule}
use Rattle.fb_resource.specs.declared.resource.Resource.{Resource}
use Rattle.fb_laws.specs.Finality.{core_of}
use Rattle.fb_window.specs.Standing.{IsAt}

-- Said of every core that a schedule, to any horizon, has brought to these resources.
abbrev pub OfEachCore : (i : Inputs) (limit : ℕ) → List Resource → (Core (machine (system_of i) limit) → Type 0) → Type 0
OfEachCore i limit xs P =
    (range : ℕ) (es : List (CoreStep (machine (system_of i) limit)))
    → IsSchedule (machine (system_of i) limit) range (opening_core (system_of i) (stimuli_of i) limit) es
    → IsAt i limit (core_of i limit es) xs → P (core_of i limit es)

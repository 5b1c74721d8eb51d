-- What a core, and what of it remains while resources are away, keep in their types (this project's profile).
use Rattle.std.specs.Prelude.{◌≡◌, ◌^◌, ◌<◌, ◌≤◌, ℕ, List, All, Some, length, slice_get}
use Rattle.fb_types.specs.Cores.{CoreStep, opening_core}
use Rattle.fb_types.specs.Headline.{Inputs, system_of, stimuli_of}
use Rattle.fb_types.specs.Parts.{machine, count_of}
use Rattle.fb_types.specs.Schedules.{IsSchedule}
use Rattle.fb_types.specs.declared.value.Reason.{Reason}
use Rattle.fb_system.specs.Lines.{BelongsTo}
use Rattle.fb_resource.specs.declared.resource.Resource.{Resource}
use Rattle.fb_laws.specs.Finality.{core_of}
use Rattle.fb_window.specs.Leaving.{AreLegal, HasLeft}
use Rattle.fb_window.specs.Standing.{IsAt}
use Rattle.fb_window.specs.declared.cores.AwayState.{AwayState}
use Rattle.fb_window.specs.declared.cores.CoreState.{CoreState}

-- No clock is over the horizon, and that of a resource that has stopped is below it.
abbrev pub KeepHorizon : (horizon : ℕ) → List Resource → Type 0
KeepHorizon horizon xs = (r : ℕ) (x : Resource) → slice_get xs r ≡ Some x → (x.clock ≤ horizon) × ((reason : Reason) → x.stopped ≡ Some reason → x.clock < horizon)

-- Some schedule, to any horizon, has led to these resources. It has moved no member past the last one.
pub record IsBrought (i : Inputs) (limit : ℕ) (xs : List Resource) : Type 0 where
  pub range : ℕ
  pub steps : List (CoreStep (machine (system_of i) limit))
  pub schedule : IsSchedule (machine (system_of i) limit) range (opening_core (system_of i) (stimuli_of i) limit) steps
  pub at : IsAt i limit (core_of i limit steps) xs
  pub idle : (r : ℕ) → count_of (system_of i) ≤ r → (core_of i limit steps r).clock ≡ 0

-- A core: some schedule has led to its resources, and the lines that it keeps are lines of the system.
pub record IsReached (c : CoreState) : Type 0 where
  pub way : IsBrought c.system c.steps c.resources.items
  pub some_steps : 1 ≤ c.steps
  pub few_steps : c.steps ≤ 10 ^ 7
  pub counted : length c.pending.items ≡ length c.resources.items
  pub belong : All (λ p. All (BelongsTo (system_of c.system)) p.items) c.pending.items

-- Some schedule to the horizon has led to these resources, and with these bounds they may leave.
pub record MayGo (i : Inputs) (limit horizon : ℕ) (xs : List Resource) (bounds : List ℕ) : Type 0 where
  pub steps : List (CoreStep (machine (system_of i) limit))
  pub schedule : IsSchedule (machine (system_of i) limit) horizon (opening_core (system_of i) (stimuli_of i) limit) steps
  pub at : IsAt i limit (core_of i limit steps) xs
  pub idle : (r : ℕ) → count_of (system_of i) ≤ r → (core_of i limit steps r).clock ≡ 0
  pub legal : AreLegal i limit horizon (core_of i limit steps) bounds

-- What remains of such a core, where its resources have left with legal bounds.
pub record IsAway (a : AwayState) : Type 0 where
  pub resources : List Resource
  pub bounds : List ℕ
  pub left : HasLeft resources bounds a
  pub way : MayGo a.system a.steps a.horizon resources bounds
  pub some_steps : 1 ≤ a.steps
  pub few_steps : a.steps ≤ 10 ^ 7
  pub counted : length a.pending.items ≡ length resources
  pub belong : All (λ p. All (BelongsTo (system_of a.system)) p.items) a.pending.items

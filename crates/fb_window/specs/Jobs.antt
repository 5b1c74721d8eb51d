-- The jobs of a phase, and what does them (this project's profile).
use Rattle.std.specs.Prelude.{◌≡◌, ℕ, ◌+◌, ◌^◌, ◌≤◌, List, [], ◌∷◌, ◌++◌, Option, Some, None, refl, slice_get, slice_index_or}
use Rattle.std.specs.Coded.{Coded, code_by, coded×, coded_ℕ}
use Rattle.fb_types.specs.Headline.{Inputs}
use Rattle.fb_system.specs.contracts.system.System as system
use Rattle.fb_resource.specs.Resources.{IsOf, HasRun}
use Rattle.fb_resource.specs.contracts.resource.Resource as resource
use Rattle.fb_resource.specs.declared.resource.Resource.{Resource}
use Rattle.fb_resource.specs.declared.resource.WindowDone.{WindowDone}

-- A resource that is to run below a tick, with the inputs of its system and the limit on the steps of a tick.
pub record JobModel : Type 0 where
  pub inputs : Inputs
  pub steps : ℕ
  pub resource : Resource
  pub to : ℕ

-- a job is stored as its four parts
abbrev pub job_code : Coded JobModel
job_code =
    code_by (Inputs × (ℕ × (Resource × ℕ))) (coded× system.the_row.coded (coded× coded_ℕ (coded× resource.the_row.coded coded_ℕ)))
    (λ j. (j.inputs, (j.steps, (j.resource, j.to)))) (λ p. record { inputs = p.0; steps = p.1.0; resource = p.1.1.0; to = p.1.1.1 }) (λ _. refl)

-- The resource is one of the system, has not stopped, and runs on from its clock, no further than the last tick.
pub record MayRun (j : JobModel) : Type 0 where
  pub of : IsOf j.inputs j.resource
  pub live : j.resource.stopped ≡ None
  pub ahead : j.resource.clock ≤ j.to
  pub early : j.to ≤ 10 ^ 12
  pub some_steps : 1 ≤ j.steps
  pub few_steps : j.steps ≤ 10 ^ 7

-- The done value is what becomes of the job's resource below the job's tick. One that reports that memory ran out does every job.
abbrev pub Does : JobModel → WindowDone → Type 0
Does j = HasRun j.inputs j.steps j.resource j.to

-- ---- Leaving

-- the job of a resource that has not stopped, to run below a tick
abbrev pub job_of : Inputs → (limit to : ℕ) → Resource → List JobModel
job_of i limit to x = elim x.stopped [ None ↦ record { inputs = i; steps = limit; resource = x; to = to } ∷ [] | Some reason ↦ [] ]

-- one job for each resource that has not stopped, in their order, each with the bound at its index
abbrev pub jobs_of : Inputs → (limit : ℕ) → (bounds : List ℕ) → (index : ℕ) → List Resource → List JobModel
jobs_of i limit bs r [] = []
jobs_of i limit bs r (x ∷ xs) = job_of i limit (slice_index_or bs r 0) x ++ jobs_of i limit bs (r + 1) xs

-- a resource that has stopped remains, at its index
abbrev pub resting_of : Resource → Option Resource
resting_of x = elim x.stopped [ None ↦ None | Some reason ↦ Some x ]

-- Each resource that has not stopped may run to the bound at its index.
abbrev pub MayLeave : (bounds : List ℕ) → List Resource → Type 0
MayLeave bs xs = (r : ℕ) (x : Resource) → slice_get xs r ≡ Some x → x.stopped ≡ None → (x.clock ≤ slice_index_or bs r 0) × (slice_index_or bs r 0 ≤ 10 ^ 12)

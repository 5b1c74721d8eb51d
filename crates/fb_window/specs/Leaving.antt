-- How resources leave: what remains, and with which bounds they may (this project's profile).
use Rattle.std.specs.Prelude.{◌≡◌, ℕ, ◌<◌, ◌≤◌, List, map, length, Some, None, slice_get, slice_index_or}
use Rattle.fb_types.specs.Headline.{Inputs, system_of}
use Rattle.fb_types.specs.Parts.{machine, count_of}
use Rattle.fb_types.specs.Cores.{IsLegal}
use Rattle.fb_types.specs.Cores as model_cores
use Rattle.fb_resource.specs.declared.resource.Resource.{Resource}
use Rattle.fb_window.specs.Jobs.{jobs_of, resting_of}
use Rattle.fb_window.specs.declared.cores.AwayState.{AwayState}

-- What is away has left these resources with these bounds: each that has not stopped is a job, and each other stayed at its index.
pub record HasLeft (xs : List Resource) (bounds : List ℕ) (a : AwayState) : Type 0 where
  pub counted : length xs ≡ count_of (system_of a.system)
  pub numbered : (r : ℕ) (x : Resource) → slice_get xs r ≡ Some x → x.tree.resource ≡ r
  pub jobs : a.jobs.value.items ≡ jobs_of a.system a.steps bounds 0 xs
  pub resting : a.resting.items ≡ map resting_of xs

-- Each resource that has not stopped may leave with its bound: a legal one, not below its clock nor over the horizon.
pub record AreLegal (i : Inputs) (limit horizon : ℕ) (c : model_cores.Core (machine (system_of i) limit)) (bounds : List ℕ) : Type 0 where
  pub legal : (r : ℕ) → r < count_of (system_of i) → (c r).state.stop ≡ None → IsLegal (machine (system_of i) limit) c r (slice_index_or bounds r 0)
  pub not_back : (r : ℕ) → r < count_of (system_of i) → (c r).state.stop ≡ None → (c r).clock ≤ slice_index_or bounds r 0
  pub in_range : (r : ℕ) → r < count_of (system_of i) → (c r).state.stop ≡ None → slice_index_or bounds r 0 ≤ horizon

-- Where the core of the parallel run is (this project's profile).
use Rattle.std.specs.Prelude.{◌≡◌, ℕ, ◌≤◌, List, [], length, Some, None, slice_get}
use Rattle.fb_types.specs.Headline.{Inputs, system_of}
use Rattle.fb_types.specs.Machines.{Machine, waiting}
use Rattle.fb_types.specs.Parts.{machine, count_of}
use Rattle.fb_types.specs.Cores.{Core, Member}
use Rattle.fb_types.specs.declared.key.Key.{Key}
use Rattle.fb_resource.specs.Resources.{IsOf, Represents}
use Rattle.fb_resource.specs.declared.resource.Resource.{Resource}

-- The resource at an index is what a member of the core has there: at home, with an empty outbox.
pub record Sits (i : Inputs) (limit : ℕ) (m : Member (machine (system_of i) limit)) (r : ℕ) (x : Resource) : Type 0 where
  pub number : x.tree.resource ≡ r
  pub of : IsOf i x
  pub state : Represents i limit m.state x
  pub clock : m.clock ≡ x.clock
  pub home : m.out ≡ None
  pub posted : m.outbox ≡ []

-- A member past the last resource has nothing to do.
pub record IsQuiet (M : Machine) (m : Member M) (r : ℕ) : Type 0 where
  pub live : m.state.stop ≡ None
  pub home : m.out ≡ None
  pub posted : m.outbox ≡ []
  pub waits : (k : Key) → k.resource ≡ r → waiting M m.state k ≡ None

-- The resources are where the core is.
pub record IsAt (i : Inputs) (limit : ℕ) (c : Core (machine (system_of i) limit)) (xs : List Resource) : Type 0 where
  pub counted : length xs ≡ count_of (system_of i)
  pub each : (r : ℕ) (x : Resource) → slice_get xs r ≡ Some x → Sits i limit (c r) r x
  pub others : (r : ℕ) → count_of (system_of i) ≤ r → IsQuiet (machine (system_of i) limit) (c r) r

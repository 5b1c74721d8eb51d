-- Resources and links by their indexes (IEC 61499-1, 7; links are this project's profile).
use Rattle.std.specs.Prelude.{◌≡◌, ℕ, ◌<◌, Bool, ◌&&◌, nat_eq, List, [], length, map, Option, Some, None, position, slice_get, slice_index_or, unwrap_or}
use Rattle.fb_types.specs.Flat.{holder, link_between, end_of, paths_of, resource_of}
use Rattle.fb_types.specs.declared.library.Library.{Library}
use Rattle.fb_types.specs.declared.library.Instance.{Instance}
use Rattle.fb_types.specs.declared.deploy.Plan.{Plan}
use Rattle.fb_check_names.specs.declared.numbers.LinkEnds.{LinkEnds}
use Rattle.fb_system.specs.Layouts.{path_of}

-- for each instance of the application the resource that holds it, and the resources of each link
pub record Linked : Type 0 where
  pub holders : List ℕ
  pub ends : List LinkEnds

-- for each instance of the application, the resource that holds it
abbrev pub holders_of : Library → Plan → List ℕ
holders_of lib plan = map (λ i. holder plan i.name) lib.application.network.instances

-- ---- What is looked up

abbrev pub holder_at : Linked → ℕ → ℕ
holder_at x instance = unwrap_or (slice_get x.holders instance) 0

-- each instance has the resource that holds it
abbrev pub AreInstanceResources : Library → Plan → List ℕ → Type 0
AreInstanceResources lib plan instance_resources = (k : ℕ) → k < length (paths_of lib) → slice_get instance_resources k ≡ Some (resource_of plan (path_of lib k))

abbrev pub sender_at : Linked → ℕ → ℕ
sender_at x link = elim (slice_get x.ends link) [ None ↦ 0 | Some e ↦ e.from ]

abbrev pub receiver_at : Linked → ℕ → ℕ
receiver_at x link = elim (slice_get x.ends link) [ None ↦ 0 | Some e ↦ e.to ]

abbrev pub joins : ℕ → ℕ → LinkEnds → Bool
joins from to e = nat_eq e.from from && nat_eq e.to to

-- the first link from one resource to another
abbrev pub first_between : List LinkEnds → ℕ → ℕ → Option ℕ
first_between ends from to = position (joins from to) ends

abbrev pub link_at : Linked → ℕ → ℕ → Option ℕ
link_at x from to = first_between x.ends from to

-- ---- What the tables contain

-- the link to a resource, of those from another
abbrev pub way_to : List (Option ℕ) → ℕ → Option ℕ
way_to row to = slice_index_or row to None

-- the link from one resource to another
abbrev pub way_between : List (List (Option ℕ)) → ℕ → ℕ → Option ℕ
way_between ways from to = way_to (slice_index_or ways from []) to

-- The table has the first link between any two resources.
pub record AreWays (ends : List LinkEnds) (ways : List (List (Option ℕ))) : Type 0 where
  pub each : (from to : ℕ) → way_between ways from to ≡ first_between ends from to

-- The numbers are those of the application's instances, and of the deployment's resources and links.
pub record IsLinked (lib : Library) (plan : Plan) (x : Linked) : Type 0 where
  pub holders : (i : ℕ) (n : Instance) → slice_get lib.application.network.instances i ≡ Some n → holder_at x i ≡ holder plan n.name
  pub links : (r s : ℕ) → r < length plan.resources → s < length plan.resources → link_at x r s ≡ link_between plan r s
  pub senders : (l : ℕ) → sender_at x l ≡ end_of (λ y. y.from) plan l
  pub receivers : (l : ℕ) → receiver_at x l ≡ end_of (λ y. y.to) plan l

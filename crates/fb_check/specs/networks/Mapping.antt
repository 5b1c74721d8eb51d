-- What a mapping of the application's instances to resources says (IEC 61499-1, 7.2; one resource for each instance is this project's profile).
use Rattle.std.specs.Prelude.{◌≡◌, ℕ, List, Option, Some, None, is_some, map, slice_get, unwrap_or}
use Rattle.std.specs.BTreeMap.{BTreeMap}
use Rattle.std.specs.Borrow.{Bor}
use Rattle.fb_types.specs.Names.{Name}
use Rattle.fb_types.specs.Flat.{holder}
use Rattle.fb_types.specs.Mapped.{NotMapped}
use Rattle.fb_types.specs.declared.library.Instance.{Instance}
use Rattle.fb_types.specs.declared.library.Library.{Library}
use Rattle.fb_types.specs.declared.library.PortName.{PortName}
use Rattle.fb_types.specs.declared.deploy.Plan.{Plan}
use Rattle.fb_types.specs.declared.deploy.ResourceEntry.{ResourceEntry}
use Rattle.fb_check_names.specs.Indexes.{index_in}
use Rattle.fb_check_names.specs.Listed.{unless}
use Rattle.fb_check_names.specs.declared.location.NotMappedAt.{NotMappedAt}
use Rattle.fb_check_names.specs.declared.location.NotMappedAt.TheVariants.{Unlisted}
use Rattle.fb_check.specs.declared.networks.mapping.Listed.{Listed}
use Rattle.fb_check.specs.declared.networks.mapping.Mapping.{Mapping}
use Rattle.fb_check.specs.declared.networks.mapping.Mapping.TheVariants as mapping

-- ---- Names that are listed

-- the number of a resource, as often as it lists a name
abbrev pub owners_in : ℕ → ResourceEntry → List ℕ
owners_in k r = map (λ n. k) r.instances

-- an instance that no resource lists
abbrev pub unlisted_by : BTreeMap (Bor Name) ℕ → ℕ → Instance → List NotMappedAt
unlisted_by m k i = unless (is_some (index_in m i.name)) (Unlisted k)

-- ---- The mapping

-- what is at an index
abbrev pub owned : List ℕ → Option ℕ → Option ℕ
owned owners None = None
owned owners (Some index) = slice_get owners index

-- the resource that lists a name
abbrev pub owner_of : Listed → Name → ℕ
owner_of l n = unwrap_or (owned l.owners.items (index_in l.indexes n)) 0

-- the resource that a mapping gives
abbrev pub holder_in : Mapping → Name → ℕ
holder_in mapping.All n = 0
holder_in (mapping.Listed l) n = owner_of l n

-- the resource that a mapping gives for an end of a connection
abbrev pub resource_in : Mapping → PortName → ℕ
resource_in m p = elim p.component [ None ↦ 0 | Some c ↦ holder_in m c ]

-- The mapping gives the resource that holds an instance.
pub record IsHolding (plan : Plan) (m : Mapping) : Type 0 where
  pub holder : (n : Name) → holder_in m n ≡ holder plan n

-- Each instance is mapped once, and the mapping gives its resource.
pub record IsMapping (lib : Library) (plan : Plan) (m : Mapping) : Type 0 where
  pub each : ¬ (NotMapped lib plan)
  pub holds : IsHolding plan m

-- The instances of an application by their numbers (IEC 61499-1, 5.3; the order of the numbers is this project's
-- profile).
use Rattle.std.specs.Prelude.{◌≡◌, ◌<◌, ℕ, List, [], ◌∷◌, ◌++◌, map, length, All, Option, Some, None, unwrap_or, position, slice_get}
use Rattle.fb_types.specs.Names.{Name, same_name, Path}
use Rattle.fb_types.specs.Blocks.{Kind}
use Rattle.fb_types.specs.Flat.{kind_at, network_at, parent, paths_of, number_of}
use Rattle.fb_types.specs.Repeated.{instance_names}
use Rattle.fb_types.specs.Text.{path_text}
use Rattle.fb_types.specs.declared.library.Library.{Library}
use Rattle.fb_types.specs.declared.library.Instance.{Instance}
use Rattle.fb_types.specs.declared.library.Network.{Network}
use Rattle.fb_check_names.specs.Numbers.{kind_of_number}
use Rattle.fb_system.specs.declared.layout.InstanceRow.{InstanceRow}
use Rattle.fb_system.specs.declared.layout.Layout.{Layout}

-- the path of the instance with a number
abbrev pub path_of : Library → ℕ → Path
path_of lib k = unwrap_or (slice_get (paths_of lib) k) []

-- the index of a component in the network at a path
abbrev pub index_at : Library → Path → Name → ℕ
index_at lib p n = elim (network_at lib p) [ None ↦ 0 | Some net ↦ unwrap_or (position (same_name n) (instance_names net)) 0 ]

-- the indexes of the components on the path to an instance, from the outermost
abbrev pub route_to : Library → Path → List ℕ
route_to lib [] = []
route_to lib (n ∷ p) = route_to lib p ++ index_at lib p n ∷ []

-- the numbers of the instances in the network at a path, in the order of the text
pub record AreNumbers (lib : Library) (p : Path) (instances : List Instance) (numbers : List ℕ) : Type 0 where
  pub paths : map (path_of lib) numbers ≡ map (λ i. i.name ∷ p) instances
  pub within : All (λ k. k < length (paths_of lib)) numbers

-- the numbers of the components of the instance at a path: none if it is not a composite
abbrev pub AreComponents : Library → Path → List ℕ → Type 0
AreComponents lib p numbers = elim (network_at lib p) [ None ↦ numbers ≡ [] | Some net ↦ AreNumbers lib p net.instances numbers ]

-- the number of the composite that contains an instance, which is less than its own, or none in the application
abbrev pub IsParent : Library → ℕ → Option ℕ → Type 0
IsParent lib k None = parent (path_of lib k) ≡ []
IsParent lib k (Some j) = (j < k) × (path_of lib j ≡ parent (path_of lib k))

-- The instance is in the network of its composite, under its name.
pub record IsInNetwork (lib : Library) (k : ℕ) : Type 0 where
  pub network : Network
  pub is_network : network_at lib (parent (path_of lib k)) ≡ Some network
  pub index : ℕ
  pub instance : Instance
  pub is_instance : slice_get network.instances index ≡ Some instance
  pub is_path : path_of lib k ≡ instance.name ∷ parent (path_of lib k)
  pub is_index : index_at lib (parent (path_of lib k)) instance.name ≡ index

pub record IsRow (lib : Library) (k : ℕ) (r : InstanceRow) : Type 0 where
  pub text : r.path ≡ path_text (path_of lib k)
  pub kind : Kind
  pub is_kind : kind_at lib (path_of lib k) ≡ Some kind
  pub numbered : kind_of_number lib r.kind ≡ Some kind
  pub parent_is : IsParent lib k r.parent
  pub placed : IsInNetwork lib k
  pub route : r.route ≡ route_to lib (path_of lib k)
  pub components : AreComponents lib (path_of lib k) r.components

-- Each instance has a row, indexed by its number.
pub record IsLayout (lib : Library) (x : Layout) : Type 0 where
  pub counted : length x.rows ≡ length (paths_of lib)
  pub rows : (k : ℕ) (r : InstanceRow) → slice_get x.rows k ≡ Some r → IsRow lib k r
  pub top : AreNumbers lib [] lib.application.network.instances x.top
  -- paths differ
  pub numbers : (k : ℕ) → k < length (paths_of lib) → number_of (paths_of lib) (path_of lib k) ≡ k

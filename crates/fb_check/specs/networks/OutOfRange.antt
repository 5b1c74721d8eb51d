-- Where a data connection leads to a type that does not contain all values of the source type (E23; IEC 61499-1, 5.3; the
-- range of types is this project's profile).
use Rattle.std.specs.Prelude.{◌≡◌, ℕ, Bool, not, List, [], Option, Some, None, slice_get}
use Rattle.fb_types.specs.Joined.{IsWithin, type_at_end}
use Rattle.fb_types.specs.Repeated.{OwnedNetwork}
use Rattle.fb_types.specs.declared.library.BlockType.{BlockType}
use Rattle.fb_types.specs.declared.library.BlockType.TheVariants as block
use Rattle.fb_types.specs.declared.library.Connection.{Connection}
use Rattle.fb_types.specs.declared.library.Library.{Library}
use Rattle.fb_types.specs.declared.library.Ports.{Ports}
use Rattle.fb_types.specs.declared.value.Ty.{Ty}
use Rattle.fb_check_names.specs.declared.numbers.NumberedConnection.{NumberedConnection}
use Rattle.fb_check_names.specs.declared.numbers.NetworkNumbers.{NetworkNumbers}
use Rattle.fb_check_names.specs.declared.numbers.TypeNumber.{TypeNumber}
use Rattle.fb_check_names.specs.Listed.{each_at, unless}
use Rattle.fb_check_names.specs.Sites.{in_networks, network_at}
use Rattle.fb_check_names.specs.declared.location.OutOfRangeAt.{OutOfRangeAt}
use Rattle.fb_check_names.specs.declared.location.Site.{Site}
use Rattle.fb_check_names.specs.declared.location.Site.TheVariants.{Inside}
use Rattle.fb_check.specs.networks.Joins.{is_out, leads_out}

-- The data connection is there, its ends are of these types, and the one does not contain all values of the other.
pub record IsOutOfRangeAt (lib : Library) (at : OutOfRangeAt) : Type 0 where
  pub network : OwnedNetwork
  pub at_index : Connection
  pub source : Ty
  pub target : Ty
  pub network_is : network_at lib at.site ≡ Some network
  pub found : slice_get network.1.data_connections at.connection ≡ Some at_index
  pub from : type_at_end lib network at_index.from ≡ Some source
  pub to : type_at_end lib network at_index.to ≡ Some target
  pub out : ¬ (IsWithin source target)

-- ---- All, in the order of the declaration

-- the type at the end of the connection contains all values of the one at its beginning, if both are types
abbrev pub is_joined : Library → OwnedNetwork → Connection → Bool
is_joined lib n c = not (is_out (type_at_end lib n c.from) (type_at_end lib n c.to))

abbrev pub out_of_range_at : Library → Site → OwnedNetwork → ℕ → Connection → List OutOfRangeAt
out_of_range_at lib s n k c = unless (is_joined lib n c) (record { site = s; connection = k })

abbrev pub out_of_range_in : Library → Site → OwnedNetwork → List OutOfRangeAt
out_of_range_in lib s n = each_at (out_of_range_at lib s n) n.1.data_connections

abbrev pub out_of_range_all : Library → List OutOfRangeAt
out_of_range_all lib = in_networks (out_of_range_in lib) lib

-- ---- By number

abbrev pub out_at : Library → Site → Option Ports → List TypeNumber → ℕ → NumberedConnection → List OutOfRangeAt
out_at lib s around types k w = unless (not (leads_out lib around types w)) (record { site = s; connection = k })

abbrev pub out_in : Library → Site → Option Ports → NetworkNumbers → List OutOfRangeAt
out_in lib s around x = each_at (out_at lib s around x.types) x.data_wires

-- inside a block type at an index, if it is a composite type
abbrev pub out_inside : Library → ℕ → BlockType → Option NetworkNumbers → List OutOfRangeAt
out_inside lib b (block.Composite t) (Some x) = out_in lib (Inside b) (Some t.ports) x
out_inside lib b (block.Composite t) None = []
out_inside lib b (block.Basic t) o = []

abbrev pub out_at_index : Library → List (Option NetworkNumbers) → ℕ → BlockType → List OutOfRangeAt
out_at_index lib xs b t = elim (slice_get xs b) [ None ↦ [] | Some o ↦ out_inside lib b t o ]

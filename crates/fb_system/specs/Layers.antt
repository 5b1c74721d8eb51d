-- The instances inside a network laid out as a list of rows (IEC 61499-1, 5.3; the order is this project's profile).
use Rattle.std.specs.Prelude.{ℕ, zero, suc, ◌+◌, List, [], ◌∷◌, ◌++◌, length, Option, Some, None, slice_get, option_map, option_and_then, codes}
use Rattle.fb_types.specs.Names.{Name}
use Rattle.fb_types.specs.declared.library.Library.{Library}
use Rattle.fb_types.specs.declared.library.BlockType.{BlockType}
use Rattle.fb_types.specs.declared.library.BlockType.TheVariants as block
use Rattle.fb_types.specs.declared.library.Instance.{Instance}
use Rattle.fb_types.specs.declared.library.Network.{Network}
use Rattle.fb_check_names.specs.declared.numbers.NetworkNumbers.{NetworkNumbers}
use Rattle.fb_check_names.specs.declared.numbers.Resolved.{Resolved}
use Rattle.fb_check_names.specs.declared.numbers.TypeNumber.{TypeNumber}
use Rattle.fb_check_names.specs.declared.numbers.TypeNumber.TheVariants as number
use Rattle.fb_system.specs.declared.layout.Outside.{Outside}
use Rattle.fb_system.specs.declared.layout.InstanceRow.{InstanceRow}

-- the network of a composite type, with its numbers
abbrev pub network_of_block : Option (Option NetworkNumbers) → BlockType → Option (Network × NetworkNumbers)
network_of_block numbers (block.Basic t) = None
network_of_block None (block.Composite t) = None
network_of_block (Some None) (block.Composite t) = None
network_of_block (Some (Some x)) (block.Composite t) = Some (t.network, x)

-- the network inside an instance of a type, with its numbers, if it has one
abbrev pub network_inside : Library → Resolved → TypeNumber → Option (Network × NetworkNumbers)
network_inside lib r (number.Event k) = None
network_inside lib r (number.Declared t) = option_and_then (network_of_block (slice_get r.blocks t)) (slice_get lib.blocks t)

-- A composite around a network: its number and its row, whose components do not matter.
abbrev pub Around : Type 0
Around = Option (ℕ × InstanceRow)

abbrev pub around : Option Outside → Around
around o = option_map (λ c. (c.number, c.row.now)) o

abbrev pub path_under : Around → Name → List ℕ
path_under None n = n
path_under (Some c) n = c.1.path ++ codes "." ++ n

abbrev pub route_under : Around → List ℕ
route_under None = []
route_under (Some c) = c.1.route

abbrev pub row_under : Around → Instance → TypeNumber → (index : ℕ) → (components : List ℕ) → InstanceRow
row_under o i t index components =
    record { path = path_under o i.name; kind = t; parent = option_map (λ c. c.0) o; route = route_under o ++ index ∷ []; components = components }

-- The instances of a network with all inside them: the rows, and the numbers of those in the network itself.
pub record Layer : Type 0 where
  pub rows : List InstanceRow
  pub numbers : List ℕ

abbrev pub no_layer : Layer
no_layer = record { rows = []; numbers = [] }

abbrev pub with_components : InstanceRow → List ℕ → InstanceRow
with_components r numbers = record { path = r.path; kind = r.kind; parent = r.parent; route = r.route; components = numbers }

-- an instance, what is inside it, and then its next siblings
abbrev pub layer_of : (number : ℕ) → InstanceRow → (inside next : Layer) → Layer
layer_of k row inside next =
    record { rows = with_components row inside.numbers ∷ inside.rows ++ next.rows; numbers = k ∷ next.numbers }

-- what is laid out inside an instance with a number and a row
abbrev pub layer_inside : (Around → ℕ → Network → List TypeNumber → Layer) → ℕ → InstanceRow → Option (Network × NetworkNumbers) → Layer
layer_inside inside k row None = no_layer
layer_inside inside k row (Some n) = inside (Some (k, row)) (k + 1) n.0 n.1.types

-- instances from a number and an index on, where `inside` lays out what is inside them
abbrev pub layer_among : (Around → ℕ → Network → List TypeNumber → Layer) → Library → Resolved → Around → (first index : ℕ) → List Instance → List TypeNumber → Layer
layer_among inside lib r o first index [] ts = no_layer
layer_among inside lib r o first index (i ∷ is) [] = no_layer
layer_among inside lib r o first index (i ∷ is) (t ∷ ts) =
    let row = row_under o i t index [] in
    let below = layer_inside inside first row (network_inside lib r t) in
    layer_of first row below (layer_among inside lib r o (first + 1 + length below.rows) (index + 1) is ts)

-- a network, at most `depth` names deep, whose first instance has a number
unfoldable pub layer : (depth : ℕ) → Library → Resolved → Around → (first : ℕ) → Network → List TypeNumber → Layer
layer zero lib r o first net ts = no_layer
layer (suc d) lib r o first net ts = layer_among (layer d lib r) lib r o first 0 net.instances ts

-- The types of a declaration with the indexes of their names (IEC 61499-1, 5.1).
use Rattle.std.specs.Prelude.{◌≡◌, ℕ, List, map, length, Option, Some, slice_get, option_and_then}
use Rattle.fb_types.specs.Names.{Name}
use Rattle.fb_types.specs.Blocks.{ports_of}
use Rattle.fb_types.specs.EventPorts.{ArePortsOfKinds}
use Rattle.fb_types.specs.Flat.{kind_of, type_name}
use Rattle.fb_types.specs.declared.library.BlockType.{BlockType}
use Rattle.fb_types.specs.declared.library.Library.{Library}
use Rattle.fb_types.specs.declared.library.Ports.{Ports}
use Rattle.fb_check_names.specs.Indexes.{IsIndex}
use Rattle.fb_check_names.specs.Catalog.{IsBlock}
use Rattle.fb_check_names.specs.declared.catalog.BlockIndexes.{BlockIndexes}
use Rattle.fb_check_names.specs.declared.catalog.Catalog.{Catalog}
use Rattle.fb_check_names.specs.Numbers.{index_of, kind_of_number}
use Rattle.fb_check_names.specs.declared.numbers.TypeNumber.{TypeNumber}
use Rattle.fb_check_names.specs.declared.types.Types.{Types}

-- The catalog has the indexes of the types and of their names.
pub record HasTypes (lib : Library) (c : Catalog) : Type 0 where
  pub types : IsIndex (map type_name lib.blocks) c.types
  pub counted : length c.blocks.items ≡ length lib.blocks
  pub blocks : (k : ℕ) (t : BlockType) (x : BlockIndexes) → slice_get lib.blocks k ≡ Some t → slice_get c.blocks.items k ≡ Some x → IsBlock t x

pub record AreTypes (t : Types) : Type 0 where
  pub has : HasTypes t.library.now t.catalog.now
  pub events : ArePortsOfKinds t.event_ports

abbrev pub ports_of_block : BlockType → Ports
ports_of_block t = ports_of (kind_of t)

-- the index of a port of a type among those of its kind
abbrev pub port_number : Library → TypeNumber → (Ports → List Name) → Name → Option ℕ
port_number lib t port_kind n = option_and_then (λ k. index_of (port_kind (ports_of k)) n) (kind_of_number lib t)

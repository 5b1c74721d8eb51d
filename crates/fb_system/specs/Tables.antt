-- The types of a declaration and the event blocks, each with the indexes of the variables WITH its events (this
-- project's profile).
use Rattle.std.specs.Prelude.{◌≡◌, ℕ, List, length, Some, slice_get}
use Rattle.fb_types.specs.Blocks.{ports_of, ports_of_event_block}
use Rattle.fb_types.specs.EventPorts.{kind_index}
use Rattle.fb_types.specs.Flat.{kind_of}
use Rattle.fb_types.specs.declared.event_kind.EventKind.{EventKind}
use Rattle.fb_types.specs.declared.library.BlockType.{BlockType}
use Rattle.fb_types.specs.declared.library.Library.{Library}
use Rattle.fb_check_names.specs.declared.catalog.BlockIndexes.{BlockIndexes}
use Rattle.fb_system.specs.declared.with_indexes.WithIndexes.{WithIndexes}
use Rattle.fb_system.specs.declared.interfaces.Interfaces.{Interfaces}
use Rattle.fb_system.specs.IndexLists.{AreWithIndexes}
use Rattle.fb_system.specs.Lookups.{IsIndexed}

-- each event block's entry at its index
abbrev pub AreOfEventBlocks : List WithIndexes → Type 0
AreOfEventBlocks xs = (k : EventKind) → (x : WithIndexes) × (slice_get xs (kind_index k) ≡ Some x) × AreWithIndexes (ports_of_event_block k) x

-- an entry for each of the first n block types
pub record AreOfBlocksUpTo (n : ℕ) (ts : List BlockType) (xs : List WithIndexes) : Type 0 where
  pub counted : length xs ≡ n
  pub each : (k : ℕ) (t : BlockType) (x : WithIndexes) → slice_get ts k ≡ Some t → slice_get xs k ≡ Some x → AreWithIndexes (ports_of (kind_of t)) x

abbrev pub AreOfBlocks : List BlockType → List WithIndexes → Type 0
AreOfBlocks ts xs = AreOfBlocksUpTo (length ts) ts xs

-- Block types, and the indexes of the names of each.
pub record AreBlocks (ts : List BlockType) (xs : List BlockIndexes) : Type 0 where
  pub counted : length xs ≡ length ts
  pub each : (k : ℕ) (t : BlockType) (x : BlockIndexes) → slice_get ts k ≡ Some t → slice_get xs k ≡ Some x → IsIndexed (ports_of (kind_of t)) x.ports

-- the entries of the types of a declaration, and of the event blocks
pub record AreInterfaces (lib : Library) (x : Interfaces) : Type 0 where
  pub blocks : AreOfBlocks lib.blocks x.blocks
  pub event_blocks : AreOfEventBlocks x.event_blocks

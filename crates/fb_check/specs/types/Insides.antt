-- The numbers of the networks inside block types (IEC 61499-1, 5.3).
use Rattle.std.specs.Prelude.{◌≡◌, ℕ, List, Option, Some, None, slice_get}
use Rattle.fb_types.specs.declared.library.BlockType.{BlockType}
use Rattle.fb_types.specs.declared.library.BlockType.TheVariants as block
use Rattle.fb_types.specs.declared.library.Library.{Library}
use Rattle.fb_check_names.specs.Numbers.{IsNetwork}
use Rattle.fb_check_names.specs.declared.numbers.NetworkNumbers.{NetworkNumbers}

-- the numbers of the network inside a composite type
abbrev pub AreInside : Library → BlockType → Option NetworkNumbers → Type 0
AreInside lib (block.Basic t) o = Unit {0}
AreInside lib (block.Composite t) (Some x) = IsNetwork lib (Some t, t.network) x
AreInside lib (block.Composite t) None = ⊥

-- the numbers for each block type
abbrev pub AreAllInside : Library → List (Option NetworkNumbers) → Type 0
AreAllInside lib xs = (k : ℕ) (t : BlockType) → slice_get lib.blocks k ≡ Some t → (o : Option NetworkNumbers) × (slice_get xs k ≡ Some o) × AreInside lib t o

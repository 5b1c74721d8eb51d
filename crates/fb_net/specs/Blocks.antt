-- A function block with what is inside it (IEC 61499-1, 5.1 to 5.3).
use Rattle.std.specs.Prelude.{ℕ, List, [], slice_set}
use Rattle.fb_types.specs.declared.value.Value.{Value}
use Rattle.fb_net.specs.declared.block.Block.{Block}
use Rattle.fb_net.specs.declared.block.Block.TheOpen.{Block-F}
use Rattle.fb_net.specs.declared.block.Block.TheViews.{out-Block, roll-Block}
use Rattle.fb_net.specs.declared.shell.Shell.{Shell}

abbrev pub components_in : Block-F Block → List Block
components_in (Block-F.Basic s) = []
components_in (Block-F.Event s) = []
components_in (Block-F.Composite bs) = bs

-- the blocks inside a block
abbrev pub components_of : Block → List Block
components_of b = components_in (out-Block b)

abbrev pub composite_with : List Block → Block-F Block → Block-F Block
composite_with bs (Block-F.Basic s) = Block-F.Basic s
composite_with bs (Block-F.Event s) = Block-F.Event s
composite_with bs (Block-F.Composite cs) = Block-F.Composite bs

-- a composite with other blocks inside it; no other block has any
abbrev pub with_components : Block → List Block → Block
with_components b bs = roll-Block (composite_with bs (out-Block b))

-- a block without its components
abbrev pub own_of : Block → Block
own_of b = with_components b []

-- ---- Shells

-- a connection or a stimulus has brought a value to a data input
abbrev pub with_slot : (index : ℕ) → Value → Shell → Shell
with_slot index v s = record s { slots = slice_set s.slots index v }

-- a data output shows another value
abbrev pub with_published : (index : ℕ) → Value → Shell → Shell
with_published index v s = record s { published = slice_set s.published index v }

-- an event block or a composite has sampled a data input
abbrev pub with_input : (index : ℕ) → Value → Shell → Shell
with_input index v s = record s { inputs = slice_set s.inputs index v }

-- Data outputs that are used and that no event output has WITH it: their readers keep the initial value (IEC 61499-1, 5.1).
use Rattle.std.specs.Prelude.{ℕ, List, Bool, false, not, ◌&&◌, ◌||◌, Option, Some, None}
use Rattle.std.specs.List.{list_any}
use Rattle.fb_types.specs.Names.{Name, same_name}
use Rattle.fb_types.specs.Blocks.{among, ports_of}
use Rattle.fb_types.specs.Flat.{kind_of}
use Rattle.fb_types.specs.declared.library.BlockType.{BlockType}
use Rattle.fb_types.specs.declared.library.BlockType.TheVariants as block
use Rattle.fb_types.specs.declared.library.Connection.{Connection}
use Rattle.fb_types.specs.declared.library.Instance.{Instance}
use Rattle.fb_types.specs.declared.library.Library.{Library}
use Rattle.fb_types.specs.declared.library.Network.{Network}
use Rattle.fb_types.specs.declared.library.Variable.{Variable}
use Rattle.fb_check_names.specs.declared.ports.PortKind.TheVariants as kind
use Rattle.fb_lint.specs.Findings.{when, each_from}
use Rattle.fb_lint.specs.Interfaces.{has_with, joins}
use Rattle.fb_lint.specs.Reads.{assigned}
use Rattle.fb_lint.specs.declared.warning.Warning.{Warning}
use Rattle.fb_lint.specs.declared.warning.Warning.TheVariants.{UnsentOutput}

-- ---- L14

-- it is the instance with the name, and of the type
abbrev pub is_instance : (of name : Name) → Instance → Bool
is_instance n i x = same_name i x.name && same_name n x.block_type

abbrev pub is_end_of : List Instance → (of : Name) → Option Name → Bool
is_end_of is n None = false
is_end_of is n (Some i) = list_any (is_instance n i) is

-- the connection comes from the data output of an instance of the type
abbrev pub reads : List Instance → (of output : Name) → Connection → Bool
reads is n v c = same_name v c.from.port && is_end_of is n c.from.component

abbrev pub reads_in : (of output : Name) → Network → Bool
reads_in n v net = list_any (reads net.instances n v) net.data_connections

abbrev pub reads_inside : (of output : Name) → BlockType → Bool
reads_inside n v (block.Basic t) = false
reads_inside n v (block.Composite t) = reads_in n v t.network

-- a data connection of the application or of a composite type reads it
abbrev pub is_read : Library → (of output : Name) → Bool
is_read lib n v = reads_in n v lib.application.network || list_any (reads_inside n v) lib.blocks

-- an algorithm assigns it, or a connection inside leads to it
abbrev pub is_written : BlockType → (output : Name) → Bool
is_written (block.Basic t) v = among (assigned t.algorithms) v
is_written (block.Composite t) v = list_any (joins kind.Output v) t.network.data_connections

-- it is used, and none of the event outputs has it WITH it
abbrev pub is_unsent : Library → (of : Name) → BlockType → (output : Name) → Bool
is_unsent lib n t v = not (list_any (has_with v) (ports_of (kind_of t)).event_outputs) && (is_read lib n v || is_written t v)

abbrev pub unsent_output : Library → (of : Name) → (block : ℕ) → BlockType → ℕ → Variable → List Warning
unsent_output lib n b t k v = when (is_unsent lib n t v.name) (UnsentOutput b k)

abbrev pub unsent_outputs : Library → (of : Name) → (block : ℕ) → BlockType → List Variable → List Warning
unsent_outputs lib n b t vs = each_from (unsent_output lib n b t) 0 vs

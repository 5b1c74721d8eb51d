-- Data inputs to which each instance of their type gives a parameter: they need no event that samples them (IEC 61499-1, 5.3).
use Rattle.std.specs.Prelude.{Bool, false, not, ◌&&◌}
use Rattle.std.specs.List.{list_any}
use Rattle.fb_types.specs.Names.{Name, same_name}
use Rattle.fb_types.specs.declared.library.BlockType.{BlockType}
use Rattle.fb_types.specs.declared.library.BlockType.TheVariants as block
use Rattle.fb_types.specs.declared.library.Instance.{Instance}
use Rattle.fb_types.specs.declared.library.Library.{Library}
use Rattle.fb_lint.specs.Networks.{is_parameter, is_used_type}

-- it is of the type and gives the input no parameter
abbrev pub lacks : (of input : Name) → Instance → Bool
lacks n v i = same_name n i.block_type && not (list_any (is_parameter v) i.parameters)

abbrev pub lacks_inside : (of input : Name) → BlockType → Bool
lacks_inside n v (block.Basic t) = false
lacks_inside n v (block.Composite t) = list_any (lacks n v) t.network.instances

-- there are instances of the type, and each gives the input a parameter
abbrev pub is_given : Library → (of input : Name) → Bool
is_given lib n v =
    is_used_type lib n && not (list_any (lacks n v) lib.application.network.instances) && not (list_any (lacks_inside n v) lib.blocks)

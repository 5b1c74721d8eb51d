use Rattle.std.proofs.Common.{◌≡◌, ◌++◌, take}
use Rattle.std.specs.List.{filter}
use Rattle.fb_types.specs.Blocks.{variable_names}
use Rattle.fb_inspect.specs.walk.Notes.{is_unpublished}
use Rattle.fb_inspect.proofs.walk.blocks.add_unpublished.Given as goal

abbrev pub invariant-loop-index : goal.invariant-loop-index
invariant-loop-index l = l.hidden.items ≡ l.fn.hidden.items ++ variable_names (filter (is_unpublished l.block) (take l.index l.block.ports.outputs))

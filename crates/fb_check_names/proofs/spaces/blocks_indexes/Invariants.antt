use Rattle.std.proofs.Common.{◌≡◌, ◌++◌, drop, take}
use Rattle.fb_check_names.specs.Listed.{each_at, each_from}
use Rattle.fb_check_names.specs.GivenTwice.{AreBlocks}
use Rattle.fb_check_names.specs.TwiceLists.{twice_in_block}
use Rattle.fb_check_names.proofs.spaces.blocks_indexes.Given as goal

abbrev pub invariant-loop-block : goal.invariant-loop-block
invariant-loop-block l =
    AreBlocks (take l.block l.blocks) l.all.items
    × (l.found.items ++ each_from twice_in_block l.block (drop l.block l.blocks) ≡ l.fn.found.items ++ each_at twice_in_block l.blocks)

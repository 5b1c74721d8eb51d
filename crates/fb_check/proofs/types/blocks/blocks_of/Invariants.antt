use Rattle.fb_check.proofs.lemmas.Common.{◌≡◌, ◌++◌, [], drop, each_at, each_from, unknown_in_block}
use Rattle.fb_check.proofs.lemmas.types.BlockNumbers.{AreFirst}
use Rattle.fb_check.proofs.types.blocks.blocks_of.Given as goal

abbrev pub invariant-loop-block : goal.invariant-loop-block
invariant-loop-block l =
    (l.found.items ++ each_from (unknown_in_block l.types.library.now) l.block (drop l.block l.blocks) ≡ l.fn.found.items ++ each_at (unknown_in_block l.types.library.now) l.blocks)
    × (each_at (unknown_in_block l.types.library.now) l.blocks ≡ [] → AreFirst l.types.library.now l.block l.all)

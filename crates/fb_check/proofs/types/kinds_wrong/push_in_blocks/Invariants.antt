use Rattle.fb_check.proofs.lemmas.Common.{◌≡◌, ◌++◌, drop, each_at, each_from, kinds_wrong_in_block}
use Rattle.fb_check.proofs.types.kinds_wrong.push_in_blocks.Given as goal

abbrev pub invariant-loop-block : goal.invariant-loop-block
invariant-loop-block l =
    l.found.items ++ each_from (kinds_wrong_in_block l.library) l.block (drop l.block l.blocks) ≡ l.fn.found.items ++ each_at (kinds_wrong_in_block l.library) l.blocks

use Rattle.fb_check.proofs.lemmas.Common.{◌≡◌, ◌++◌, drop, each_at, each_from, out_at_index}
use Rattle.fb_check.proofs.networks.ranges.push_in_blocks.Given as goal

abbrev pub invariant-loop-block : goal.invariant-loop-block
invariant-loop-block l =
    l.found.items ++ each_from (out_at_index l.library l.blocks) l.block (drop l.block l.types) ≡ l.fn.found.items ++ each_at (out_at_index l.library l.blocks) l.types

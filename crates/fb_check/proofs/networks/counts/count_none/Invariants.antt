use Rattle.std.proofs.Common.{◌≡◌, map, take}
use Rattle.fb_check.specs.networks.Counts.{no_count}
use Rattle.fb_check.proofs.networks.counts.count_none.Given as goal

abbrev pub invariant-loop-block : goal.invariant-loop-block
invariant-loop-block l = l.counts.items ≡ map no_count (take l._block-index l.blocks)

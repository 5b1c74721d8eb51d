use Rattle.std.proofs.Common.{◌≡◌, map, take}
use Rattle.fb_check.specs.networks.Counts.{count_inside}
use Rattle.fb_check.proofs.networks.counts.count_again.Given as goal

abbrev pub invariant-loop-numbers : goal.invariant-loop-numbers
invariant-loop-numbers l = l.again.items ≡ map (count_inside l.counts) (take l.numbers-index l.blocks)

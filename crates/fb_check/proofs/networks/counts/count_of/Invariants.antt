use Rattle.std.proofs.Common.{◌≡◌, take}
use Rattle.fb_check.specs.networks.Counts.{count_of}
use Rattle.fb_check.proofs.networks.counts.count_of.Given as goal

abbrev pub invariant-loop-number : goal.invariant-loop-number
invariant-loop-number l = l.count ≡ count_of l.counts (take l.number-index l.types)

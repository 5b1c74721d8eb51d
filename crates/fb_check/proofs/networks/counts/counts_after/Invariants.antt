use Rattle.std.proofs.Common.{◌≡◌}
use Rattle.fb_check.specs.networks.Counts.{counts_after}
use Rattle.fb_check.proofs.networks.counts.counts_after.Given as goal

abbrev pub invariant-loop-round : goal.invariant-loop-round
invariant-loop-round l = l.counts.items ≡ counts_after l._round l.blocks

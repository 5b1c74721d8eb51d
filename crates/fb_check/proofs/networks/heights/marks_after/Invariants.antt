use Rattle.std.proofs.Common.{◌≡◌}
use Rattle.fb_check.specs.networks.Heights.{marks_after}
use Rattle.fb_check.proofs.networks.heights.marks_after.Given as goal

abbrev pub invariant-loop-round : goal.invariant-loop-round
invariant-loop-round l = l.marks.items ≡ marks_after l._round l.blocks

use Rattle.std.proofs.Common.{◌≡◌, map, take}
use Rattle.fb_check.specs.networks.Heights.{holds_marked}
use Rattle.fb_check.proofs.networks.heights.mark_again.Given as goal

abbrev pub invariant-loop-numbers : goal.invariant-loop-numbers
invariant-loop-numbers l = l.again.items ≡ map (holds_marked l.marks) (take l.numbers-index l.blocks)

use Rattle.std.proofs.Common.{◌≡◌, length}
use Rattle.fb_read_positions.specs.Walks.{take_all}
use Rattle.fb_read_positions.proofs.step.take_all.Given as goal

abbrev pub invariant-loop-left : goal.invariant-loop-left
invariant-loop-left l = take_all l.fn.steps l.fn.cursor ≡ take_all l.left l.cursor

abbrev pub decreases-loop-left : goal.decreases-loop-left
decreases-loop-left l = length l.left

use Rattle.std.proofs.Common.{◌-◌, length}
use Rattle.fb_board.specs.Models.{IsIdleSeatOf}
use Rattle.fb_tests.proofs.tests.board.draw_all.Given as goal

abbrev pub invariant-loop-slip : goal.invariant-loop-slip
invariant-loop-slip l = IsIdleSeatOf l.board l.seat

-- a seat draws no more numbers than there are jobs
abbrev pub decreases-loop-slip : goal.decreases-loop-slip
decreases-loop-slip l = length l.board.jobs - length l.seat.knows.drawn

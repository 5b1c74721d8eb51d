use Rattle.std.proofs.Common.{◌-◌, length}
use Rattle.fb_board.specs.Models.{IsIdleSeatOf}
use Rattle.fb_tests.proofs.tests.examples.each_job_is_done_once.Given as goal

abbrev pub invariant-loop-slip : goal.invariant-loop-slip
invariant-loop-slip g l = IsIdleSeatOf l.board l.seat

-- each turn draws a number, and a seat draws no more numbers than there are jobs
abbrev pub decreases-loop-slip : goal.decreases-loop-slip
decreases-loop-slip g l = length l.board.jobs - length l.seat.knows.drawn

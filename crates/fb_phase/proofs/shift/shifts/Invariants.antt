use Rattle.std.proofs.Common.{◌≡◌, ◌+◌, vec_len}
use Rattle.std.specs.Vec.Iter.{into_iter_len}
use Rattle.fb_phase.proofs.shift.shifts.Given as goal

-- there is a shift for each seat that was taken from the list
abbrev pub invariant-loop-seat : goal.invariant-loop-seat
invariant-loop-seat g l = vec_len l.shifts + into_iter_len l.seat-iterator ≡ vec_len l.fn.seats

use Rattle.std.proofs.Common.{◌≡◌, ◌+◌, drop}
use Rattle.fb_read.specs.Durations.{digits_len}
use Rattle.fb_read.proofs.time.digits_len.Given as goal

abbrev pub invariant-loop-end : goal.invariant-loop-end
invariant-loop-end l = l.end + digits_len (drop l.end l.z) ≡ digits_len l.z

use Rattle.std.proofs.Common.{◌≡◌, ◌+◌, drop}
use Rattle.fb_read.specs.Durations.{letters_len}
use Rattle.fb_read.proofs.time.letters_len.Given as goal

abbrev pub invariant-loop-end : goal.invariant-loop-end
invariant-loop-end l = l.end + letters_len (drop l.end l.z) ≡ letters_len l.z

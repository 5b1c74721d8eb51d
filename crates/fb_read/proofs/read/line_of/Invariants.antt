use Rattle.std.proofs.Common.{◌≡◌, ◌≤◌, ◌+◌, ◌==◌, count_by, take}
use Rattle.fb_read.proofs.read.line_of.Given as goal

abbrev pub invariant-loop-byte : goal.invariant-loop-byte
invariant-loop-byte l = (l.line ≡ 1 + count_by (λ b. b == 10) (take l.byte-index l.before)) × (l.line ≤ 1 + l.byte-index)

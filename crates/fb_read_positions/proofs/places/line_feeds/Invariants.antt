use Rattle.std.proofs.Common.{◌≡◌, ◌≤◌, ◌-◌, ◌==◌, count_by, length, take}
use Rattle.fb_read_positions.proofs.places.line_feeds.Given as goal

abbrev pub invariant-loop-from : goal.invariant-loop-from
invariant-loop-from l = (l.found ≡ count_by (λ b. b == 10) (take l.from l.bytes)) × (l.from ≤ length l.bytes)

abbrev pub decreases-loop-from : goal.decreases-loop-from
decreases-loop-from l = length l.bytes - l.from

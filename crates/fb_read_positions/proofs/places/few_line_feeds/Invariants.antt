use Rattle.std.proofs.Common.{◌≡◌, ◌≤◌, ◌==◌, count_by, take}
use Rattle.fb_read_positions.proofs.places.few_line_feeds.Given as goal

abbrev pub invariant-loop-byte : goal.invariant-loop-byte
invariant-loop-byte l = (l.found ≡ count_by (λ b. b == 10) (take l.byte-index l.bytes)) × (l.found ≤ l.byte-index)

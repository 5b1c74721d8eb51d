use Rattle.std.proofs.Common.{◌≡◌, take}
use Rattle.fb_expect.specs.Reports.{escape_bytes}
use Rattle.fb_expect.proofs.tap.escape_bytes.Given as goal

abbrev pub invariant-loop-byte : goal.invariant-loop-byte
invariant-loop-byte l = l.text.items ≡ escape_bytes l.mark (take l.byte-index l.part)

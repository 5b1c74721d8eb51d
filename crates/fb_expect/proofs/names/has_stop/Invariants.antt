use Rattle.std.proofs.Common.{◌≡◌, drop}
use Rattle.fb_expect.specs.Words.{has_stop}
use Rattle.fb_expect.proofs.names.has_stop.Given as goal

abbrev pub invariant-loop-byte : goal.invariant-loop-byte
invariant-loop-byte l = has_stop l.text ≡ has_stop (drop l.byte-index l.text)

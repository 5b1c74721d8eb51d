use Rattle.fb_read.proofs.lemmas.Common.{◌≡◌, drop, skip, start}
use Rattle.fb_read.proofs.blank.skip.Given as goal

abbrev pub invariant-loop-i : goal.invariant-loop-i
invariant-loop-i l = skip l.state (drop l.i l.bytes) ≡ skip start l.bytes

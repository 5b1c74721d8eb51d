use Rattle.std.proofs.Common.{◌≡◌, drop}
use Rattle.fb_expect.specs.Pairing.{are_same}
use Rattle.fb_expect.proofs.alike.are_same.Given as goal

abbrev pub invariant-loop-name : goal.invariant-loop-name
invariant-loop-name l = are_same l.names l.left l.right ≡ are_same (drop l.name-index l.names) l.left l.right

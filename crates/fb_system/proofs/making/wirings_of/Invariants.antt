use Rattle.std.proofs.Common.{◌≡◌}
use Rattle.fb_system.proofs.making.wirings_of.Given as goal

abbrev pub invariant-loop-block : goal.invariant-loop-block
invariant-loop-block l = l.wirings ≡ l.yielded

use Rattle.std.proofs.Common.{◌≡◌, length}
use Rattle.fb_ecc.specs.Programs.{AreGuards}
use Rattle.fb_ecc.proofs.program.guards.Given as goal

abbrev pub invariant-loop-transition : goal.invariant-loop-transition
invariant-loop-transition l = record {
  count : length l.guards ≡ l.transition-index;
  are : AreGuards l.scope.layout.now l.transitions l.guards;
}

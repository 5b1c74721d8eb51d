use Rattle.std.proofs.Common.{◌≡◌, length}
use Rattle.fb_ecc.specs.Programs.{AreBodies}
use Rattle.fb_ecc.proofs.program.bodies.Given as goal

abbrev pub invariant-loop-algorithm : goal.invariant-loop-algorithm
invariant-loop-algorithm l = record {
  count : length l.bodies ≡ l.algorithm-index;
  are : AreBodies l.scope.layout.now l.algorithms l.bodies;
}

use Rattle.fb_net.specs.Opening.{HaveShells, IsShellAlone}
use Rattle.fb_net.proofs.opening.shell_indexes.index_shells.Given as goal

abbrev pub invariant-loop-instance : goal.invariant-loop-instance
invariant-loop-instance l = record {
  has_shells : HaveShells l.system l.instance l.forest;
  alone : IsShellAlone l.initial.forest l.forest;
}

use Rattle.fb_types.proofs.Common.{◌≡◌, drop, list_any}
use Rattle.fb_lint.specs.Reads.{runs_at}
use Rattle.fb_lint.proofs.algorithms.runs_at.Given as goal

abbrev pub invariant-loop-entry : goal.invariant-loop-entry
invariant-loop-entry l = list_any (runs_at l.algorithm l.state) l.states ≡ list_any (runs_at l.algorithm l.state) (drop l.entry-index l.states)

use Rattle.std.proofs.Common.{◌≡◌, length}
use Rattle.fb_lint.specs.Statements.{has_repeated}
use Rattle.fb_lint.proofs.statements.has_repeated.Given as goal

-- the labels before have no value in common with another one
abbrev pub invariant-loop-labels : goal.invariant-loop-labels
invariant-loop-labels l = has_repeated l.labels ≡ has_repeated l.initial.labels

abbrev pub decreases-loop-labels : goal.decreases-loop-labels
decreases-loop-labels l = length l.labels

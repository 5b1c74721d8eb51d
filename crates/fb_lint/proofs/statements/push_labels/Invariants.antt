use Rattle.std.proofs.Common.{◌≡◌, ◌++◌, drop}
use Rattle.fb_check.specs.types.Trees.{branches_of}
use Rattle.fb_lint.specs.Statements.{labels_in}
use Rattle.fb_lint.proofs.statements.push_labels.Given as goal

-- with what the rest adds, all is there
abbrev pub invariant-loop-branch : goal.invariant-loop-branch
invariant-loop-branch l = l.labels.items ++ labels_in (branches_of (drop l.branch-index l.branches)) ≡ l.fn.labels.items ++ labels_in (branches_of l.branches)

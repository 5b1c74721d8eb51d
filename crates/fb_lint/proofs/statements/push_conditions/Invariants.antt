use Rattle.fb_lint.proofs.lemmas.Common.{◌≡◌, ◌++◌, drop, meant_all, choices_of}
use Rattle.fb_lint.specs.Statements.{read_by_conditions}
use Rattle.fb_lint.proofs.statements.push_conditions.Given as goal

-- with what the rest adds, all is there
abbrev pub invariant-loop-choice : goal.invariant-loop-choice
invariant-loop-choice l = meant_all l.reads.items ++ read_by_conditions (choices_of (drop l.choice-index l.choices)) ≡ meant_all l.fn.reads.items ++ read_by_conditions (choices_of l.choices)

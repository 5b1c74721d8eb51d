use Rattle.fb_check.proofs.lemmas.Common.{◌≡◌, ◌++◌, drop, all_of, branches_of, choices_of, all_standing, each_in_body, each_in_branches, each_in_choices}
use Rattle.fb_check.proofs.types.statements.+statement.Given as goal

-- with the statements of the rest, all are there
abbrev pub invariant-push_statements-loop-statement : goal.invariant-push_statements-loop-statement
invariant-push_statements-loop-statement l =
    all_standing l.all.items ++ each_in_body l.in_loop (all_of (drop l.statement-index l.statement-items))
    ≡ all_standing l.fn.all.items ++ each_in_body l.in_loop (all_of l.statement-items)

abbrev pub invariant-push_choices-loop-choice : goal.invariant-push_choices-loop-choice
invariant-push_choices-loop-choice l =
    all_standing l.all.items ++ each_in_choices l.in_loop (choices_of (drop l.choice-index l.choice-items))
    ≡ all_standing l.fn.all.items ++ each_in_choices l.in_loop (choices_of l.choice-items)

abbrev pub invariant-push_branches-loop-branch : goal.invariant-push_branches-loop-branch
invariant-push_branches-loop-branch l =
    all_standing l.all.items ++ each_in_branches l.in_loop (branches_of (drop l.branch-index l.branch-items))
    ≡ all_standing l.fn.all.items ++ each_in_branches l.in_loop (branches_of l.branch-items)

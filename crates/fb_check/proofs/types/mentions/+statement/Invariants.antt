use Rattle.fb_check.proofs.lemmas.Common.{◌≡◌, ◌++◌, drop, mentions_body, all_of, branches_of, choices_of, meant_all}
use Rattle.fb_types.specs.Unknown.{mentions_branches, mentions_choices}
use Rattle.fb_check.proofs.types.mentions.+statement.Given as goal

-- with what the rest names, all is there
abbrev pub invariant-push_statements-loop-statement : goal.invariant-push_statements-loop-statement
invariant-push_statements-loop-statement l =
    meant_all l.all.items ++ mentions_body (all_of (drop l.statement-index l.statement-items)) ≡ meant_all l.fn.all.items ++ mentions_body (all_of l.statement-items)

abbrev pub invariant-push_choices-loop-choice : goal.invariant-push_choices-loop-choice
invariant-push_choices-loop-choice l =
    meant_all l.all.items ++ mentions_choices (choices_of (drop l.choice-index l.choice-items)) ≡ meant_all l.fn.all.items ++ mentions_choices (choices_of l.choice-items)

abbrev pub invariant-push_branches-loop-branch : goal.invariant-push_branches-loop-branch
invariant-push_branches-loop-branch l =
    meant_all l.all.items ++ mentions_branches (branches_of (drop l.branch-index l.branch-items)) ≡ meant_all l.fn.all.items ++ mentions_branches (branches_of l.branch-items)

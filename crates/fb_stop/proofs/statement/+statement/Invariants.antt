use Rattle.std.proofs.Common.{◌≡◌, ◌*◌, ◌+◌, ◌≤◌, max, take}
use denote.Param.Weighed.{most}
use Rattle.fb_types.proofs.text.Branch.TheLaws as branch
use Rattle.fb_types.proofs.text.Choice.TheLaws as choice
use Rattle.fb_types.proofs.text.Stmt.TheLaws as stmt
use Rattle.fb_st.specs.Flows.{all_of, branches_of, choices_of}
use Rattle.fb_stop.specs.Numbers.{after_all, after_branches, after_choices}
use Rattle.fb_stop.proofs.statement.+statement.Given as goal

-- the number is that of what comes next, and what is passed has lower ones
abbrev pub invariant-in_list-loop-statement : goal.invariant-in_list-loop-statement
invariant-in_list-loop-statement l = record { counted : l.at ≡ after_all (all_of (take l.statement-index l.statements)) l.first; passed : l.at ≤ max l.first l.number }

abbrev pub invariant-in_choices-loop-choice : goal.invariant-in_choices-loop-choice
invariant-in_choices-loop-choice l = record { counted : l.at ≡ after_choices (choices_of (take l.choice-index l.choices)) l.first; passed : l.at ≤ max l.first l.number }

abbrev pub invariant-in_branches-loop-branch : goal.invariant-in_branches-loop-branch
invariant-in_branches-loop-branch l = record { counted : l.at ≡ after_branches (branches_of (take l.branch-index l.branches)) l.first; passed : l.at ≤ max l.first l.number }

-- ---- How deep the trees are

abbrev pub decreases-in_statement : goal.decreases-in_statement
decreases-in_statement l = 6 * stmt.the_size l.statement.now

abbrev pub decreases-in_list : goal.decreases-in_list
decreases-in_list l = 6 * most stmt.the_size l.statements.now + 1

-- the depth of ELSE counts as well
abbrev pub decreases-in_choices : goal.decreases-in_choices
decreases-in_choices l = max (6 * most choice.the_size l.choices.now) (6 * most stmt.the_size l.others.now + 3)

abbrev pub decreases-in_branches : goal.decreases-in_branches
decreases-in_branches l = max (6 * most branch.the_size l.branches.now) (6 * most stmt.the_size l.others.now + 3)

use Rattle.std.proofs.Common.{◌≡◌, drop}
use Rattle.fb_st.specs.Flows.{all_of, branches_of, choices_of}
use Rattle.fb_stop.specs.Numbers.{after_all, after_branches, after_choices}
use Rattle.fb_stop.proofs.number.+numbers.Given as goal

-- the number after the rest is that after all
abbrev pub invariant-after_all-loop-statement : goal.invariant-after_all-loop-statement
invariant-after_all-loop-statement l = after_all (all_of (drop l.statement-index l.statements)) l.number ≡ after_all (all_of l.statements) l.first

abbrev pub invariant-after_choices-loop-choice : goal.invariant-after_choices-loop-choice
invariant-after_choices-loop-choice l = after_choices (choices_of (drop l.choice-index l.choices)) l.number ≡ after_choices (choices_of l.choices) l.first

abbrev pub invariant-after_branches-loop-branch : goal.invariant-after_branches-loop-branch
invariant-after_branches-loop-branch l = after_branches (branches_of (drop l.branch-index l.branches)) l.number ≡ after_branches (branches_of l.branches) l.first

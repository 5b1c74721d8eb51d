use Rattle.fb_types.proofs.Common.{List, subst, ◌≡◌}
use Rattle.fb_types.specs.declared.text.Branch.{Branch}
use Rattle.fb_types.specs.declared.text.Choice.{Choice}
use Rattle.fb_types.specs.declared.text.Stmt.{Stmt}
use Rattle.fb_st.specs.Flows.{all_of, branches_of, choices_of}
use Rattle.fb_st.proofs.lemmas.Runs.{nothing_left}
use Rattle.fb_stop.specs.Numbers.{after_all, after_branches, after_choices}
use Rattle.fb_stop.proofs.lemmas.numbers.Runs.{all_counted, branch_counted, branches_counted, choice_counted, choices_counted}
use Rattle.fb_stop.proofs.number.+numbers.Goals as goal

pub after_all-loop-statement-preserved : goal.after_all-loop-statement-preserved
after_all-loop-statement-preserved t c =
    all_counted c.args.statements.now c.loop-statement.statement-index c.loop-statement.number c.after-number.result c.statement-item.result _ c.loop-statement-test.true c.statement-item.is c.after-number.ensures c.loop-statement.invariant

pub after_all-returns : goal.after_all-returns
after_all-returns t c =
    subst (λ (l : List Stmt). after_all (all_of l) c.loop-statement.number ≡ after_all (all_of c.args.statements.now) c.args.first)
    (nothing_left c.args.statements.now c.loop-statement.statement-index c.loop-statement-test.false) c.loop-statement.invariant

pub after_choices-loop-choice-preserved : goal.after_choices-loop-choice-preserved
after_choices-loop-choice-preserved t c =
    let one : Choice = c.choice-item.result in
    choices_counted c.args.choices.now c.loop-choice.choice-index c.loop-choice.number c.after_all-number.result one _ c.loop-choice-test.true c.choice-item.is
    (choice_counted one c.as_slice.result.now c.loop-choice.number c.after_all-number.result c.as_slice.ensures c.after_all-number.ensures) c.loop-choice.invariant

pub after_choices-returns : goal.after_choices-returns
after_choices-returns t c =
    subst (λ (l : List Choice). after_choices (choices_of l) c.loop-choice.number ≡ after_choices (choices_of c.args.choices.now) c.args.first)
    (nothing_left c.args.choices.now c.loop-choice.choice-index c.loop-choice-test.false) c.loop-choice.invariant

pub after_branches-loop-branch-preserved : goal.after_branches-loop-branch-preserved
after_branches-loop-branch-preserved t c =
    let one : Branch = c.branch-item.result in
    branches_counted c.args.branches.now c.loop-branch.branch-index c.loop-branch.number c.after_all-number.result one _ c.loop-branch-test.true c.branch-item.is
    (branch_counted one c.as_slice.result.now c.loop-branch.number c.after_all-number.result c.as_slice.ensures c.after_all-number.ensures) c.loop-branch.invariant

pub after_branches-returns : goal.after_branches-returns
after_branches-returns t c =
    subst (λ (l : List Branch). after_branches (branches_of l) c.loop-branch.number ≡ after_branches (branches_of c.args.branches.now) c.args.first)
    (nothing_left c.args.branches.now c.loop-branch.branch-index c.loop-branch-test.false) c.loop-branch.invariant

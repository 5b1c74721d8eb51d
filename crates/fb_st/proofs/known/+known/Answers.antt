use Rattle.fb_st.proofs.lemmas.Common.{List, ap, ◌∙◌, stmt_of, Branch, Choice, all_of, branch_of, branches_of, choice_of, choices_of, declared_in, AllKnown, BranchesKnown, ChoicesKnown}
use Rattle.fb_types.specs.declared.text.Stmt.{Stmt}
use Rattle.fb_st.specs.Frames.{is_declared}
use Rattle.fb_st.specs.Known.{AssignsKnown}
use Rattle.fb_st.proofs.lemmas.Knowing.{all_done, both_hold, branch_body, choice_body, fails_at, fails_by, first_fails, goes_on, holds_by, same_test}
use Rattle.fb_st.proofs.lemmas.Runs.{assign_says, case_says, for_says, if_says}
use Rattle.fb_st.proofs.known.+known.Goals as goal

pub knows_all-returns-then-not-knows_statement : goal.knows_all-returns-then-not-knows_statement
knows_all-returns-then-not-knows_statement t c =
    let ds = declared_in c.args.frame.now in
    fails_at (λ (l : List Stmt). AllKnown ds (all_of l)) (λ (s : Stmt). AssignsKnown ds (stmt_of s)) (λ x xs h. h) (λ x xs h. h) c.args.statements.now c.loop-statement.statement-index c.statement-item.result c.loop-statement-test.true c.statement-item.is c.loop-statement.invariant
    (fails_by _ c.knows_statement.ensures c.if-not-knows_statement.true)

pub knows_all-loop-statement-preserved : goal.knows_all-loop-statement-preserved
knows_all-loop-statement-preserved t c =
    let ds = declared_in c.args.frame.now in
    goes_on (λ (l : List Stmt). AllKnown ds (all_of l)) (λ (s : Stmt). AssignsKnown ds (stmt_of s)) (λ x xs h. h) (λ x xs h. h) c.args.statements.now c.loop-statement.statement-index c.statement-item.result c.loop-statement-test.true c.statement-item.is c.loop-statement.invariant
    (holds_by _ c.knows_statement.ensures c.if-not-knows_statement.false)

pub knows_all-returns : goal.knows_all-returns
knows_all-returns t c =
    let ds = declared_in c.args.frame.now in
    all_done (λ (l : List Stmt). AllKnown ds (all_of l)) (λ (s : Stmt). AssignsKnown ds (stmt_of s)) (λ x xs h. h) (λ x xs h. h) c.args.statements.now c.loop-statement.statement-index tt c.loop-statement-test.false c.loop-statement.invariant

pub knows_choices-returns-then-not-knows_all : goal.knows_choices-returns-then-not-knows_all
knows_choices-returns-then-not-knows_all t c =
    let ds = declared_in c.args.frame.now in
    fails_at (λ (l : List Choice). ChoicesKnown ds (choices_of l)) (λ (x : Choice). AllKnown ds (choice_of x).1) (λ x xs h. h) (λ x xs h. h) c.args.choices.now c.loop-choice.choice-index c.choice-item.result c.loop-choice-test.true c.choice-item.is c.loop-choice.invariant
    (fails_by _ (rw (c.as_slice.ensures, ← choice_body c.choice-item.result) at c.knows_all.ensures) c.if-not-knows_all.true)

pub knows_choices-loop-choice-preserved : goal.knows_choices-loop-choice-preserved
knows_choices-loop-choice-preserved t c =
    let ds = declared_in c.args.frame.now in
    goes_on (λ (l : List Choice). ChoicesKnown ds (choices_of l)) (λ (x : Choice). AllKnown ds (choice_of x).1) (λ x xs h. h) (λ x xs h. h) c.args.choices.now c.loop-choice.choice-index c.choice-item.result c.loop-choice-test.true c.choice-item.is c.loop-choice.invariant
    (holds_by _ (rw (c.as_slice.ensures, ← choice_body c.choice-item.result) at c.knows_all.ensures) c.if-not-knows_all.false)

pub knows_choices-returns : goal.knows_choices-returns
knows_choices-returns t c =
    let ds = declared_in c.args.frame.now in
    all_done (λ (l : List Choice). ChoicesKnown ds (choices_of l)) (λ (x : Choice). AllKnown ds (choice_of x).1) (λ x xs h. h) (λ x xs h. h) c.args.choices.now c.loop-choice.choice-index tt c.loop-choice-test.false c.loop-choice.invariant

pub knows_branches-returns-then-not-knows_all : goal.knows_branches-returns-then-not-knows_all
knows_branches-returns-then-not-knows_all t c =
    let ds = declared_in c.args.frame.now in
    fails_at (λ (l : List Branch). BranchesKnown ds (branches_of l)) (λ (x : Branch). AllKnown ds (branch_of x).1) (λ x xs h. h) (λ x xs h. h) c.args.branches.now c.loop-branch.branch-index c.branch-item.result c.loop-branch-test.true c.branch-item.is c.loop-branch.invariant
    (fails_by _ (rw (c.as_slice.ensures, ← branch_body c.branch-item.result) at c.knows_all.ensures) c.if-not-knows_all.true)

pub knows_branches-loop-branch-preserved : goal.knows_branches-loop-branch-preserved
knows_branches-loop-branch-preserved t c =
    let ds = declared_in c.args.frame.now in
    goes_on (λ (l : List Branch). BranchesKnown ds (branches_of l)) (λ (x : Branch). AllKnown ds (branch_of x).1) (λ x xs h. h) (λ x xs h. h) c.args.branches.now c.loop-branch.branch-index c.branch-item.result c.loop-branch-test.true c.branch-item.is c.loop-branch.invariant
    (holds_by _ (rw (c.as_slice.ensures, ← branch_body c.branch-item.result) at c.knows_all.ensures) c.if-not-knows_all.false)

pub knows_branches-returns : goal.knows_branches-returns
knows_branches-returns t c =
    let ds = declared_in c.args.frame.now in
    all_done (λ (l : List Branch). BranchesKnown ds (branches_of l)) (λ (x : Branch). AllKnown ds (branch_of x).1) (λ x xs h. h) (λ x xs h. h) c.args.branches.now c.loop-branch.branch-index tt c.loop-branch-test.false c.loop-branch.invariant

pub knows_statement-returns-in-Assign : goal.knows_statement-returns-in-Assign
knows_statement-returns-in-Assign t c =
    let ds = declared_in c.args.frame.now in
    rw (ap stmt_of c.in-Assign.is ∙ assign_says c.in-Assign.variable c.in-Assign.field-1) (same_test _ _ (c.has.ensures ∙ ap (is_declared ds) c.name.ensures))

pub knows_statement-returns-then-knows_choices : goal.knows_statement-returns-then-knows_choices
knows_statement-returns-then-knows_choices t c =
    rw (ap stmt_of c.in-If.is ∙ if_says c.in-If.choices c.in-If.others)
    (both_hold _ _ (rw c.as_slice.ensures at c.knows_choices.ensures) c.if-knows_choices.true (rw c.as_slice-then-knows_choices.ensures at c.knows_all.ensures))

pub knows_statement-returns-else-knows_choices : goal.knows_statement-returns-else-knows_choices
knows_statement-returns-else-knows_choices t c =
    rw (ap stmt_of c.in-If.is ∙ if_says c.in-If.choices c.in-If.others) (first_fails _ (rw c.as_slice.ensures at c.knows_choices.ensures) c.if-knows_choices.false)

pub knows_statement-returns-then-knows_branches : goal.knows_statement-returns-then-knows_branches
knows_statement-returns-then-knows_branches t c =
    rw (ap stmt_of c.in-Case.is ∙ case_says c.in-Case.field-0 c.in-Case.branches c.in-Case.others)
    (both_hold _ _ (rw c.as_slice-in-Case.ensures at c.knows_branches.ensures) c.if-knows_branches.true
    (rw c.as_slice-then-knows_branches.ensures at c.knows_all-then-knows_branches.ensures))

pub knows_statement-returns-else-knows_branches : goal.knows_statement-returns-else-knows_branches
knows_statement-returns-else-knows_branches t c =
    rw (ap stmt_of c.in-Case.is ∙ case_says c.in-Case.field-0 c.in-Case.branches c.in-Case.others)
    (first_fails _ (rw c.as_slice-in-Case.ensures at c.knows_branches.ensures) c.if-knows_branches.false)

pub knows_statement-returns-then-has : goal.knows_statement-returns-then-has
knows_statement-returns-then-has t c =
    let ds = declared_in c.args.frame.now in
    rw (ap stmt_of c.in-For.is ∙ for_says c.in-For.variable c.in-For.field-1 c.in-For.field-2 c.in-For.field-3 c.in-For.body)
    (both_hold _ _ (same_test _ _ (c.has-in-For.ensures ∙ ap (is_declared ds) c.name-in-For.ensures)) c.if-has.true (rw c.as_slice-then-has.ensures at c.knows_all-then-has.ensures))

pub knows_statement-returns-else-has : goal.knows_statement-returns-else-has
knows_statement-returns-else-has t c =
    let ds = declared_in c.args.frame.now in
    rw (ap stmt_of c.in-For.is ∙ for_says c.in-For.variable c.in-For.field-1 c.in-For.field-2 c.in-For.field-3 c.in-For.body)
    (first_fails _ (same_test _ _ (c.has-in-For.ensures ∙ ap (is_declared ds) c.name-in-For.ensures)) c.if-has.false)

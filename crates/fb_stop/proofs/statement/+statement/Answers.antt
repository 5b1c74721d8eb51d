use Rattle.fb_types.proofs.Common.{◌≡◌, ◌∙◌, ◌<◌, ℕ, List, Some, arith, sym, ap, subst, slice_get, slice_get-get_or}
use Rattle.fb_types.specs.declared.text.Branch.{Branch}
use Rattle.fb_types.specs.declared.text.Choice.{Choice}
use Rattle.fb_types.specs.declared.text.Stmt.TheOpen.{Stmt-F}
use Rattle.fb_types.specs.declared.text.Stmt as read
use Rattle.fb_types.specs.declared.text.Stmt.TheViews.{out-Stmt}
use Rattle.fb_st.specs.Flows.{all_of, branches_of, choices_of}
use Rattle.fb_st.specs.Frames.{values_of}
use Rattle.fb_stop.specs.Numbers.{after_all, after_branches, after_choices}
use Rattle.fb_stop.specs.Statements.{IsInBranches, IsInChoices, IsInList, IsInStatement}
use Rattle.fb_stop.specs.Statements as spec
use Rattle.fb_stop.proofs.lemmas.numbers.Missing.{branch_otherwise, case_otherwise, choice_otherwise, else_otherwise, if_otherwise, itself_otherwise, layer_for, layer_repeat, layer_while, leaf_otherwise, list_otherwise, list_passed, loop_otherwise, no_label_otherwise}
use Rattle.fb_stop.proofs.lemmas.operations.FirstWithoutValue.{if_none_map}
use Rattle.fb_stop.proofs.lemmas.operations.OperationPlaces.{all_more, all_taken, branches_more, choices_more, if_some_map, in_choice, in_else, in_label, in_no_label, in_this, of_case, of_if, of_itself, of_loop}
use Rattle.fb_stop.proofs.lemmas.numbers.Runs.{branch_counted, choice_counted}
use Rattle.fb_stop.proofs.statement.+statement.Goals as goal

pub in_statement-returns-then-number-at-clause-found : goal.in_statement-returns-then-number-at-clause-found
in_statement-returns-then-number-at-clause-found t c =
    of_itself (values_of c.args.frame.now) c.args.reason c.args.number c.args.statement.now c.args.at c.in_own.result c.if-number-at.true c.in_own.ensures.found

pub in_statement-returns-in-If-clause-found : goal.in_statement-returns-in-If-clause-found
in_statement-returns-in-If-clause-found t c =
    of_if (values_of c.args.frame.now) c.args.reason c.args.number c.args.statement.now c.args.at c.next-inside.result c.in-If.choices c.as_slice.result.now c.in-If.others c.as_slice-in-If.result.now
    c.in_choices.result c.in-If.is c.as_slice.ensures c.as_slice-in-If.ensures c.next-inside.ensures c.in_choices.ensures.found

pub in_statement-returns-in-Case-clause-found : goal.in_statement-returns-in-Case-clause-found
in_statement-returns-in-Case-clause-found t c =
    of_case (values_of c.args.frame.now) c.args.reason c.args.number c.args.statement.now c.args.at c.next-inside.result c.in-Case.field-0 c.in-Case.branches c.as_slice-in-Case.result.now c.in-Case.others c.as_slice-in-Case-2.result.now
    c.in_branches.result c.in-Case.is c.as_slice-in-Case.ensures c.as_slice-in-Case-2.ensures c.next-inside.ensures c.in_branches.ensures.found

pub in_statement-returns-in-For-clause-found : goal.in_statement-returns-in-For-clause-found
in_statement-returns-in-For-clause-found t c =
    of_loop (values_of c.args.frame.now) c.args.reason c.args.number c.args.statement.now (read.For c.in-For.field-0 c.in-For.field-1 c.in-For.field-2 c.in-For.field-3 c.in-For.body) c.args.at c.next-inside.result
    c.in-For.body c.as_slice-in-For.result.now c.in_list.result c.in-For.is (spec.in_for c.in-For.field-0 c.in-For.field-1 c.in-For.field-2 c.in-For.field-3 c.in-For.body c.args.at)
    c.as_slice-in-For.ensures c.next-inside.ensures c.in_list.ensures.found

pub in_statement-returns-in-While-clause-found : goal.in_statement-returns-in-While-clause-found
in_statement-returns-in-While-clause-found t c =
    of_loop (values_of c.args.frame.now) c.args.reason c.args.number c.args.statement.now (read.While c.in-While.field-0 c.in-While.body) c.args.at c.next-inside.result
    c.in-While.body c.as_slice-in-While.result.now c.in_list-in-While.result c.in-While.is (spec.in_while c.in-While.field-0 c.in-While.body c.args.at)
    c.as_slice-in-While.ensures c.next-inside.ensures c.in_list-in-While.ensures.found

pub in_statement-returns-in-Repeat-clause-found : goal.in_statement-returns-in-Repeat-clause-found
in_statement-returns-in-Repeat-clause-found t c =
    of_loop (values_of c.args.frame.now) c.args.reason c.args.number c.args.statement.now (read.Repeat c.in-Repeat.body c.in-Repeat.field-1) c.args.at c.next-inside.result
    c.in-Repeat.body c.as_slice-in-Repeat.result.now c.in_list-in-Repeat.result c.in-Repeat.is (spec.in_repeat c.in-Repeat.body c.in-Repeat.field-1 c.args.at)
    c.as_slice-in-Repeat.ensures c.next-inside.ensures c.in_list-in-Repeat.ensures.found

pub in_list-returns-then-number-then-clause-found : goal.in_list-returns-then-number-then-clause-found
in_list-returns-then-number-then-clause-found t c =
    let vars = values_of c.args.frame.now in
    let ss : List read.Stmt = c.args.statements.now in
    let i : ℕ = c.loop-statement.statement-index in
    let s : read.Stmt = c.statement-item.result in
    let there : slice_get ss i ≡ Some s = slice_get-get_or ss i s c.loop-statement-test.true ∙ ap Some (sym c.statement-item.is) in
    if_some_map (IsInStatement vars c.args.reason s c.loop-statement.at c.args.number) (IsInList vars c.args.reason ss c.args.first c.args.number) c.in_statement.result
    (λ x h. in_this vars c.args.reason c.args.number ss c.args.first c.loop-statement.at i s x there c.loop-statement.invariant.counted h) c.in_statement.ensures.found

pub in_list-loop-statement-preserved : goal.in_list-loop-statement-preserved
in_list-loop-statement-preserved t c =
    record {
      counted = all_more c.args.statements.now c.loop-statement.statement-index c.args.first c.loop-statement.at c.after-then.result c.statement-item.result c.loop-statement-test.true c.statement-item.is c.after-then.ensures c.loop-statement.invariant.counted;
      passed = omega (arith, c.loop-statement.invariant.passed);
    }

pub in_choices-returns-then-number-then-clause-found : goal.in_choices-returns-then-number-then-clause-found
in_choices-returns-then-number-then-clause-found t c =
    let vars = values_of c.args.frame.now in
    let cs : List Choice = c.args.choices.now in
    let i : ℕ = c.loop-choice.choice-index in
    let one : Choice = c.choice-item.result in
    let body : List read.Stmt = c.as_slice-then-number-then.result.now in
    let there : slice_get cs i ≡ Some one = slice_get-get_or cs i one c.loop-choice-test.true ∙ ap Some (sym c.choice-item.is) in
    if_some_map (IsInList vars c.args.reason body c.loop-choice.at c.args.number) (IsInChoices vars c.args.reason cs c.args.others.now c.args.first c.args.number) c.in_list.result
    (λ x h. in_choice vars c.args.reason c.args.number cs c.args.others.now c.args.first c.loop-choice.at i one body x there c.as_slice-then-number-then.ensures c.loop-choice.invariant.counted h) c.in_list.ensures.found

pub in_choices-loop-choice-preserved : goal.in_choices-loop-choice-preserved
in_choices-loop-choice-preserved t c =
    let one : Choice = c.choice-item.result in
    record {
      counted = choices_more c.args.choices.now c.loop-choice.choice-index c.args.first c.loop-choice.at c.after_all-then.result one c.loop-choice-test.true c.choice-item.is
          (choice_counted one c.as_slice.result.now c.loop-choice.at c.after_all-then.result c.as_slice.ensures c.after_all-then.ensures) c.loop-choice.invariant.counted;
      passed = omega (arith, c.loop-choice.invariant.passed);
    }

pub in_choices-returns-clause-found : goal.in_choices-returns-clause-found
in_choices-returns-clause-found t c =
    let vars = values_of c.args.frame.now in
    let cs : List Choice = c.args.choices.now in
    let over = all_taken cs c.loop-choice.choice-index c.loop-choice-test.false in
    let counted = c.loop-choice.invariant.counted ∙ ap (λ (l : List Choice). after_choices (choices_of l) c.args.first) over in
    if_some_map (IsInList vars c.args.reason c.args.others.now c.loop-choice.at c.args.number) (IsInChoices vars c.args.reason cs c.args.others.now c.args.first c.args.number) c.in_list-2.result
    (λ x h. in_else vars c.args.reason c.args.number cs c.args.others.now c.args.first c.loop-choice.at x counted h) c.in_list-2.ensures.found

pub in_branches-returns-then-number-then-clause-found : goal.in_branches-returns-then-number-then-clause-found
in_branches-returns-then-number-then-clause-found t c =
    let vars = values_of c.args.frame.now in
    let bs : List Branch = c.args.branches.now in
    let i : ℕ = c.loop-branch.branch-index in
    let one : Branch = c.branch-item.result in
    let body : List read.Stmt = c.as_slice-then-number-then.result.now in
    let there : slice_get bs i ≡ Some one = slice_get-get_or bs i one c.loop-branch-test.true ∙ ap Some (sym c.branch-item.is) in
    if_some_map (IsInList vars c.args.reason body c.loop-branch.at c.args.number) (IsInBranches vars c.args.reason bs c.args.others.now c.args.first c.args.number) c.in_list.result
    (λ x h. in_label vars c.args.reason c.args.number bs c.args.others.now c.args.first c.loop-branch.at i one body x there c.as_slice-then-number-then.ensures c.loop-branch.invariant.counted h) c.in_list.ensures.found

pub in_branches-loop-branch-preserved : goal.in_branches-loop-branch-preserved
in_branches-loop-branch-preserved t c =
    let one : Branch = c.branch-item.result in
    record {
      counted = branches_more c.args.branches.now c.loop-branch.branch-index c.args.first c.loop-branch.at c.after_all-then.result one c.loop-branch-test.true c.branch-item.is
          (branch_counted one c.as_slice.result.now c.loop-branch.at c.after_all-then.result c.as_slice.ensures c.after_all-then.ensures) c.loop-branch.invariant.counted;
      passed = omega (arith, c.loop-branch.invariant.passed);
    }

pub in_branches-returns-clause-found : goal.in_branches-returns-clause-found
in_branches-returns-clause-found t c =
    let vars = values_of c.args.frame.now in
    let bs : List Branch = c.args.branches.now in
    let over = all_taken bs c.loop-branch.branch-index c.loop-branch-test.false in
    let counted = c.loop-branch.invariant.counted ∙ ap (λ (l : List Branch). after_branches (branches_of l) c.args.first) over in
    if_some_map (IsInList vars c.args.reason c.args.others.now c.loop-branch.at c.args.number) (IsInBranches vars c.args.reason bs c.args.others.now c.args.first c.args.number) c.in_list-2.result
    (λ x h. in_no_label vars c.args.reason c.args.number bs c.args.others.now c.args.first c.loop-branch.at x counted h) c.in_list-2.ensures.found

-- ---- Where no operation is answered

below : (number at then : ℕ) (xs ys : List read.Stmt) → xs ≡ ys → then ≡ after_all (all_of xs) at → number < then → number < after_all (all_of ys) at
below number at then xs ys same counted lower = subst (λ (m : ℕ). number < m) (counted ∙ ap (λ (l : List read.Stmt). after_all (all_of l) at) same) lower

pub in_statement-returns-then-number-at-clause-none : goal.in_statement-returns-then-number-at-clause-none
in_statement-returns-then-number-at-clause-none t c =
    itself_otherwise (values_of c.args.frame.now) c.args.reason c.args.number c.args.statement.now c.args.at c.in_own.result c.if-number-at.true c.in_own.ensures.none

pub in_statement-returns-in-If-clause-none : goal.in_statement-returns-in-If-clause-none
in_statement-returns-in-If-clause-none t c =
    if_otherwise (values_of c.args.frame.now) c.args.reason c.args.number c.args.statement.now c.args.at c.next-inside.result c.in-If.choices c.as_slice.result.now c.in-If.others c.as_slice-in-If.result.now
    c.in_choices.result c.in-If.is c.as_slice.ensures c.as_slice-in-If.ensures c.next-inside.ensures c.if-number-at.false c.in_choices.ensures.none

pub in_statement-returns-in-Case-clause-none : goal.in_statement-returns-in-Case-clause-none
in_statement-returns-in-Case-clause-none t c =
    case_otherwise (values_of c.args.frame.now) c.args.reason c.args.number c.args.statement.now c.args.at c.next-inside.result c.in-Case.field-0 c.in-Case.branches c.as_slice-in-Case.result.now c.in-Case.others c.as_slice-in-Case-2.result.now
    c.in_branches.result c.in-Case.is c.as_slice-in-Case.ensures c.as_slice-in-Case-2.ensures c.next-inside.ensures c.if-number-at.false c.in_branches.ensures.none

pub in_statement-returns-in-For-clause-none : goal.in_statement-returns-in-For-clause-none
in_statement-returns-in-For-clause-none t c =
    loop_otherwise (values_of c.args.frame.now) c.args.reason c.args.number c.args.statement.now (Stmt-F.For c.in-For.field-0 c.in-For.field-1 c.in-For.field-2 c.in-For.field-3 c.in-For.body) c.args.at c.next-inside.result
    c.in-For.body c.as_slice-in-For.result.now c.in_list.result (ap out-Stmt c.in-For.is ∙ layer_for c.in-For.field-0 c.in-For.field-1 c.in-For.field-2 c.in-For.field-3 c.in-For.body) (λ inner. inner)
    c.as_slice-in-For.ensures c.next-inside.ensures c.if-number-at.false c.in_list.ensures.none

pub in_statement-returns-in-While-clause-none : goal.in_statement-returns-in-While-clause-none
in_statement-returns-in-While-clause-none t c =
    loop_otherwise (values_of c.args.frame.now) c.args.reason c.args.number c.args.statement.now (Stmt-F.While c.in-While.field-0 c.in-While.body) c.args.at c.next-inside.result
    c.in-While.body c.as_slice-in-While.result.now c.in_list-in-While.result (ap out-Stmt c.in-While.is ∙ layer_while c.in-While.field-0 c.in-While.body) (λ inner. inner)
    c.as_slice-in-While.ensures c.next-inside.ensures c.if-number-at.false c.in_list-in-While.ensures.none

pub in_statement-returns-in-Repeat-clause-none : goal.in_statement-returns-in-Repeat-clause-none
in_statement-returns-in-Repeat-clause-none t c =
    loop_otherwise (values_of c.args.frame.now) c.args.reason c.args.number c.args.statement.now (Stmt-F.Repeat c.in-Repeat.body c.in-Repeat.field-1) c.args.at c.next-inside.result
    c.in-Repeat.body c.as_slice-in-Repeat.result.now c.in_list-in-Repeat.result (ap out-Stmt c.in-Repeat.is ∙ layer_repeat c.in-Repeat.body c.in-Repeat.field-1) (λ inner. inner)
    c.as_slice-in-Repeat.ensures c.next-inside.ensures c.if-number-at.false c.in_list-in-Repeat.ensures.none

pub in_statement-returns-in-Empty-clause-none : goal.in_statement-returns-in-Empty-clause-none
in_statement-returns-in-Empty-clause-none t c = leaf_otherwise (values_of c.args.frame.now) c.args.reason c.args.number c.args.statement.now c.args.at c.in-Empty.is c.if-number-at.false

pub in_statement-returns-in-Empty-2-clause-none : goal.in_statement-returns-in-Empty-2-clause-none
in_statement-returns-in-Empty-2-clause-none t c = leaf_otherwise (values_of c.args.frame.now) c.args.reason c.args.number c.args.statement.now c.args.at c.in-Empty.is c.if-number-at.false

pub in_statement-returns-in-Empty-3-clause-none : goal.in_statement-returns-in-Empty-3-clause-none
in_statement-returns-in-Empty-3-clause-none t c = leaf_otherwise (values_of c.args.frame.now) c.args.reason c.args.number c.args.statement.now c.args.at c.in-Empty.is c.if-number-at.false

pub in_statement-returns-in-Empty-4-clause-none : goal.in_statement-returns-in-Empty-4-clause-none
in_statement-returns-in-Empty-4-clause-none t c = leaf_otherwise (values_of c.args.frame.now) c.args.reason c.args.number c.args.statement.now c.args.at c.in-Empty.is c.if-number-at.false

pub in_list-returns-then-number-then-clause-none : goal.in_list-returns-then-number-then-clause-none
in_list-returns-then-number-then-clause-none t c =
    let ss : List read.Stmt = c.args.statements.now in
    let i : ℕ = c.loop-statement.statement-index in
    let s : read.Stmt = c.statement-item.result in
    let there : slice_get ss i ≡ Some s = slice_get-get_or ss i s c.loop-statement-test.true ∙ ap Some (sym c.statement-item.is) in
    if_none_map c.in_statement.result
    (list_otherwise (values_of c.args.frame.now) c.args.reason c.args.number ss c.args.first c.loop-statement.at i s there c.loop-statement.invariant.counted c.loop-statement.invariant.passed
    (subst (λ (m : ℕ). c.args.number < m) c.after-then.ensures c.if-number-then.true))
    c.in_statement.ensures.none

pub in_list-returns-clause-none : goal.in_list-returns-clause-none
in_list-returns-clause-none t c =
    list_passed (values_of c.args.frame.now) c.args.reason c.args.number c.args.statements.now c.args.first c.loop-statement.at c.loop-statement.statement-index c.loop-statement-test.false
    c.loop-statement.invariant.counted c.loop-statement.invariant.passed

pub in_choices-returns-then-number-then-clause-none : goal.in_choices-returns-then-number-then-clause-none
in_choices-returns-then-number-then-clause-none t c =
    let cs : List Choice = c.args.choices.now in
    let i : ℕ = c.loop-choice.choice-index in
    let one : Choice = c.choice-item.result in
    let body : List read.Stmt = c.as_slice-then-number-then.result.now in
    let there : slice_get cs i ≡ Some one = slice_get-get_or cs i one c.loop-choice-test.true ∙ ap Some (sym c.choice-item.is) in
    if_none_map c.in_list.result
    (choice_otherwise (values_of c.args.frame.now) c.args.reason c.args.number cs c.args.others.now c.args.first c.loop-choice.at i one body there c.as_slice-then-number-then.ensures c.loop-choice.invariant.counted
    c.loop-choice.invariant.passed (below c.args.number c.loop-choice.at c.after_all-then.result c.as_slice.result.now body (c.as_slice.ensures ∙ sym c.as_slice-then-number-then.ensures) c.after_all-then.ensures c.if-number-then.true))
    c.in_list.ensures.none

pub in_choices-returns-clause-none : goal.in_choices-returns-clause-none
in_choices-returns-clause-none t c =
    if_none_map c.in_list-2.result
    (else_otherwise (values_of c.args.frame.now) c.args.reason c.args.number c.args.choices.now c.args.others.now c.args.first c.loop-choice.at c.loop-choice.choice-index c.loop-choice-test.false
    c.loop-choice.invariant.counted c.loop-choice.invariant.passed)
    c.in_list-2.ensures.none

pub in_branches-returns-then-number-then-clause-none : goal.in_branches-returns-then-number-then-clause-none
in_branches-returns-then-number-then-clause-none t c =
    let bs : List Branch = c.args.branches.now in
    let i : ℕ = c.loop-branch.branch-index in
    let one : Branch = c.branch-item.result in
    let body : List read.Stmt = c.as_slice-then-number-then.result.now in
    let there : slice_get bs i ≡ Some one = slice_get-get_or bs i one c.loop-branch-test.true ∙ ap Some (sym c.branch-item.is) in
    if_none_map c.in_list.result
    (branch_otherwise (values_of c.args.frame.now) c.args.reason c.args.number bs c.args.others.now c.args.first c.loop-branch.at i one body there c.as_slice-then-number-then.ensures c.loop-branch.invariant.counted
    c.loop-branch.invariant.passed (below c.args.number c.loop-branch.at c.after_all-then.result c.as_slice.result.now body (c.as_slice.ensures ∙ sym c.as_slice-then-number-then.ensures) c.after_all-then.ensures c.if-number-then.true))
    c.in_list.ensures.none

pub in_branches-returns-clause-none : goal.in_branches-returns-clause-none
in_branches-returns-clause-none t c =
    if_none_map c.in_list-2.result
    (no_label_otherwise (values_of c.args.frame.now) c.args.reason c.args.number c.args.branches.now c.args.others.now c.args.first c.loop-branch.at c.loop-branch.branch-index c.loop-branch-test.false
    c.loop-branch.invariant.counted c.loop-branch.invariant.passed)
    c.in_list-2.ensures.none

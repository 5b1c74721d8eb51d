use Rattle.fb_types.proofs.Common.{◌≡◌, List, map, sym, ◌∙◌, ap, subst, IfOk, Case, For, If, Repeat, Stmt, While, expr_of, step_of, stmt_of}
use Rattle.fb_types.specs.declared.text.Branch.{Branch}
use Rattle.fb_types.specs.declared.text.Choice.{Choice}
use Rattle.fb_types.specs.declared.text.Stmt as read
use Rattle.fb_st.specs.Flows.{all_of, branch_of, branches_of, choice_of, choices_of}
use Rattle.fb_st.specs.Made.{SaysAll, SaysBranches, SaysChoices, SaysCount, SaysStmt}
use Rattle.fb_st.specs.Fitting.{arm_right, arm_said, code_right, code_said, fork_right, fork_said}
use Rattle.fb_st.specs.declared.compiled.CompiledStmt.TheVariants as code
use Rattle.fb_st.proofs.lemmas.MakingCode.{arm_made, case_made, for_made, fork_made, if_made, one_more, repeat_made, taken_all, while_made}
use Rattle.fb_st.proofs.lemmas.Runs.{assign_says, branch_says, case_says, choice_says, for_says, if_says, repeat_says, while_says}
use Rattle.fb_st.proofs.compile_stmt.+compile_stmt.Goals as goal

pub compile_all-loop-statement-preserved : goal.compile_all-loop-statement-preserved
compile_all-loop-statement-preserved t c =
    let ds = c.args.scope.now.layout.now in
    let inv = c.loop-statement.invariant in
    let made = c.in_ok-compile_stmt.ensures in
    let more = one_more (code_right ds) (code_said ds) stmt_of c.args.statements.now c.loop-statement.statement-index c.statement-item.result c.loop-statement.compiled c.push.new.self _
    c.loop-statement-test.true c.statement-item.is c.in_ok-push.ensures.ok inv.right inv.says made.right made.says in
    record { right = more.0; says = more.1 }

pub compile_all-returns : goal.compile_all-returns
compile_all-returns t c =
    subst (λ (l : List read.Stmt). SaysAll c.args.scope.now.layout.now (map stmt_of l) c.loop-statement.compiled)
    (taken_all c.args.statements.now c.loop-statement.statement-index c.loop-statement-test.false) c.loop-statement.invariant

pub compile_choices-returns : goal.compile_choices-returns
compile_choices-returns t c =
    subst (λ (l : List Choice). SaysChoices c.args.scope.now.layout.now (map choice_of l) c.loop-choice.compiled)
    (taken_all c.args.choices.now c.loop-choice.choice-index c.loop-choice-test.false) c.loop-choice.invariant

pub compile_branches-returns : goal.compile_branches-returns
compile_branches-returns t c =
    subst (λ (l : List Branch). SaysBranches c.args.scope.now.layout.now (map branch_of l) c.loop-branch.compiled)
    (taken_all c.args.branches.now c.loop-branch.branch-index c.loop-branch-test.false) c.loop-branch.invariant

pub compile_stmt-returns-in-Assign : goal.compile_stmt-returns-in-Assign
compile_stmt-returns-in-Assign t c =
    subst (λ (s : Stmt). IfOk c.assignment.result (SaysStmt c.args.scope.now.layout.now s))
    (sym (ap stmt_of c.in-Assign.is ∙ assign_says c.in-Assign.variable c.in-Assign.expr)) c.assignment.ensures

pub compile_stmt-returns-in_ok-others-in-If : goal.compile_stmt-returns-in_ok-others-in-If
compile_stmt-returns-in_ok-others-in-If t c =
    let ds = c.args.scope.now.layout.now in
    let cs = c.as_slice.result.now in
    let others = c.as_slice-in-If.result.now in
    let said : stmt_of c.args.statement.now ≡ If (choices_of cs) (all_of others) =
    ap stmt_of c.in-If.is ∙ if_says c.in-If.choices c.in-If.others
    ∙ ap (λ (l : List Choice). If (choices_of l) (all_of c.in-If.others)) (sym c.as_slice.ensures)
    ∙ ap (λ (l : List read.Stmt). If (choices_of cs) (all_of l)) (sym c.as_slice-in-If.ensures) in
    subst (λ (s : Stmt). SaysStmt ds s (code.If c.in_ok-choices-in-If.choices c.in_ok-others-in-If.others)) (sym said)
    (if_made ds (map choice_of cs) (map stmt_of others) c.in_ok-choices-in-If.choices c.in_ok-others-in-If.others c.in_ok-choices-in-If.ensures c.in_ok-others-in-If.ensures)

pub compile_stmt-returns-in_ok-others-in-Case : goal.compile_stmt-returns-in_ok-others-in-Case
compile_stmt-returns-in_ok-others-in-Case t c =
    let ds = c.args.scope.now.layout.now in
    let e = expr_of c.in-Case.selector in
    let bs = c.as_slice-in-Case.result.now in
    let others = c.as_slice-in-Case-2.result.now in
    let said : stmt_of c.args.statement.now ≡ Case e (branches_of bs) (all_of others) =
    ap stmt_of c.in-Case.is ∙ case_says c.in-Case.selector c.in-Case.branches c.in-Case.others
    ∙ ap (λ (l : List Branch). Case e (branches_of l) (all_of c.in-Case.others)) (sym c.as_slice-in-Case.ensures)
    ∙ ap (λ (l : List read.Stmt). Case e (branches_of bs) (all_of l)) (sym c.as_slice-in-Case-2.ensures) in
    subst (λ (s : Stmt). SaysStmt ds s (code.Case c.in_ok-selector-in-Case.selector c.in_ok-branches-in-Case.branches c.in_ok-others-in-Case.others)) (sym said)
    (case_made ds e (map branch_of bs) (map stmt_of others) c.in_ok-selector-in-Case.selector c.in_ok-branches-in-Case.branches c.in_ok-others-in-Case.others c.in_ok-selector-in-Case.ensures c.in_ok-branches-in-Case.ensures c.in_ok-others-in-Case.ensures)

pub compile_stmt-returns-in_ok-body-in-For : goal.compile_stmt-returns-in_ok-body-in-For
compile_stmt-returns-in_ok-body-in-For t c =
    let ds = c.args.scope.now.layout.now in
    let n = c.in-For.variable in
    let a = expr_of c.in-For.start in
    let b = expr_of c.in-For.end in
    let by = step_of c.in-For.step in
    let body = c.as_slice-in-For.result.now in
    let said : stmt_of c.args.statement.now ≡ For n a b by (all_of body) =
    ap stmt_of c.in-For.is ∙ for_says n c.in-For.start c.in-For.end c.in-For.step c.in-For.body ∙ ap (λ (l : List read.Stmt). For n a b by (all_of l)) (sym c.as_slice-in-For.ensures) in
    subst (λ (s : Stmt). SaysStmt ds s (code.For c.in_ok-count-in-For-2.count c.in_ok-body-in-For.body)) (sym said)
    (for_made ds n a b by (map stmt_of body) c.in_ok-count-in-For-2.count c.in_ok-body-in-For.body (subst (SaysCount ds n a b by) (sym c.in_ok-count-in-For-2.ensures) c.in_ok-count-in-For.ensures) c.in_ok-body-in-For.ensures)

pub compile_stmt-returns-in_ok-body-in-While : goal.compile_stmt-returns-in_ok-body-in-While
compile_stmt-returns-in_ok-body-in-While t c =
    let ds = c.args.scope.now.layout.now in
    let test = expr_of c.in-While.condition in
    let body = c.as_slice-in-While.result.now in
    let said : stmt_of c.args.statement.now ≡ While test (all_of body) =
    ap stmt_of c.in-While.is ∙ while_says c.in-While.condition c.in-While.body ∙ ap (λ (l : List read.Stmt). While test (all_of l)) (sym c.as_slice-in-While.ensures) in
    subst (λ (s : Stmt). SaysStmt ds s (code.While c.in_ok-condition-in-While.condition c.in_ok-body-in-While.body)) (sym said)
    (while_made ds test (map stmt_of body) c.in_ok-condition-in-While.condition c.in_ok-body-in-While.body c.in_ok-condition-in-While.ensures c.in_ok-body-in-While.ensures)

pub compile_stmt-returns-in_ok-condition-in-Repeat : goal.compile_stmt-returns-in_ok-condition-in-Repeat
compile_stmt-returns-in_ok-condition-in-Repeat t c =
    let ds = c.args.scope.now.layout.now in
    let test = expr_of c.in-Repeat.condition in
    let body = c.as_slice-in-Repeat.result.now in
    let said : stmt_of c.args.statement.now ≡ Repeat (all_of body) test =
    ap stmt_of c.in-Repeat.is ∙ repeat_says c.in-Repeat.body c.in-Repeat.condition ∙ ap (λ (l : List read.Stmt). Repeat (all_of l) test) (sym c.as_slice-in-Repeat.ensures) in
    subst (λ (s : Stmt). SaysStmt ds s (code.Repeat c.in_ok-body-in-Repeat.body c.in_ok-condition-in-Repeat.condition)) (sym said)
    (repeat_made ds test (map stmt_of body) c.in_ok-condition-in-Repeat.condition c.in_ok-body-in-Repeat.body c.in_ok-condition-in-Repeat.ensures c.in_ok-body-in-Repeat.ensures)

pub compile_choices-loop-choice-preserved : goal.compile_choices-loop-choice-preserved
compile_choices-loop-choice-preserved t c =
    let ds = c.args.scope.now.layout.now in
    let inv = c.loop-choice.invariant in
    let one = c.choice-item.result in
    let made = arm_made ds _ _ _ c.in_ok-condition.ensures (rw c.as_slice.ensures at c.in_ok-body.ensures) in
    let more = one_more (arm_right ds) (arm_said ds) choice_of c.args.choices.now c.loop-choice.choice-index one c.loop-choice.compiled c.push.new.self _
    c.loop-choice-test.true c.choice-item.is c.in_ok-push.ensures.ok inv.right inv.says made.0 (made.1 ∙ sym (choice_says one)) in
    record { right = more.0; says = more.1 }

pub compile_branches-loop-branch-preserved : goal.compile_branches-loop-branch-preserved
compile_branches-loop-branch-preserved t c =
    let ds = c.args.scope.now.layout.now in
    let inv = c.loop-branch.invariant in
    let one = c.branch-item.result in
    let made = fork_made ds _ _ _ (c.in_ok-labels.ensures ∙ c.as_slice.ensures) (rw c.as_slice-in-loop-branch.ensures at c.in_ok-body.ensures) in
    let more = one_more (fork_right ds) (fork_said ds) branch_of c.args.branches.now c.loop-branch.branch-index one c.loop-branch.compiled c.push.new.self _
    c.loop-branch-test.true c.branch-item.is c.in_ok-push.ensures.ok inv.right inv.says made.0 (made.1 ∙ sym (branch_says one)) in
    record { right = more.0; says = more.1 }

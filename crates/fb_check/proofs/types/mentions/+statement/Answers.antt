use Rattle.fb_check.proofs.lemmas.Common.{◌++◌, List, refl, sym, ◌∙◌, ap, stmt_of, mentions, mentions_body, Branch, Choice, Stmt, all_of, branch_of, branches_of, choice_of, choices_of, meant_all}
use Rattle.fb_types.specs.Unknown.{mentions_branches, mentions_choices, mentions_in}
use Rattle.fb_check.proofs.lemmas.types.GrowingLists.{all_added, and_added, both_added, list_added, one_added}
use Rattle.fb_check.proofs.lemmas.types.Mentioned.{assign_names, branch_names, case_names, choice_names, for_names, if_names, repeat_names, while_names}
use Rattle.fb_check.proofs.types.mentions.+statement.Goals as goal

pub push_branches-loop-branch-preserved : goal.push_branches-loop-branch-preserved
push_branches-loop-branch-preserved t c =
    let old = meant_all c.loop-branch.all.items in
    one_added (λ (bs : List Branch). mentions_branches (branches_of bs)) (λ (b : Branch). mentions_body (branch_of b).1) c.as_slice-branch-items.result.now
    c.loop-branch.branch-index c.branch-item.result old (meant_all c.push_statements.new.all.items) _ (λ _ _. refl) c.loop-branch-test.true c.branch-item.is
    (c.in_ok-push_statements.ensures ∙ ap (λ ms. old ++ ms) (sym (branch_names c.branch-item.result)))
    c.loop-branch.invariant

pub push_branches-returns : goal.push_branches-returns
push_branches-returns t c =
    list_added (λ (bs : List Branch). mentions_branches (branches_of bs)) c.as_slice-branch-items.result.now c.loop-branch.branch-index (meant_all c.loop-branch.all.items) _ refl
    c.loop-branch-test.false c.loop-branch.invariant
    ∙ ap (λ (bs : List Branch). meant_all c.args.all.now.items ++ mentions_branches (branches_of bs)) c.as_slice-branch-items.ensures

pub push_choices-loop-choice-preserved : goal.push_choices-loop-choice-preserved
push_choices-loop-choice-preserved t c =
    let old = meant_all c.loop-choice.all.items in
    one_added (λ (cs : List Choice). mentions_choices (choices_of cs)) (λ (c : Choice). mentions (choice_of c).0 ++ mentions_body (choice_of c).1) c.as_slice-choice-items.result.now
    c.loop-choice.choice-index c.choice-item.result old (meant_all c.push_statements.new.all.items) _ (λ _ _. refl) c.loop-choice-test.true c.choice-item.is
    (both_added old (meant_all c.push_expression.new.all.items) _ _ _ c.in_ok-push_expression.ensures c.in_ok-push_statements.ensures
    ∙ ap (λ ms. old ++ ms) (sym (choice_names c.choice-item.result)))
    c.loop-choice.invariant

pub push_choices-returns : goal.push_choices-returns
push_choices-returns t c =
    list_added (λ (cs : List Choice). mentions_choices (choices_of cs)) c.as_slice-choice-items.result.now c.loop-choice.choice-index (meant_all c.loop-choice.all.items) _ refl
    c.loop-choice-test.false c.loop-choice.invariant
    ∙ ap (λ (cs : List Choice). meant_all c.args.all.now.items ++ mentions_choices (choices_of cs)) c.as_slice-choice-items.ensures

pub push_statement-returns-in-Assign : goal.push_statement-returns-in-Assign
push_statement-returns-in-Assign t c =
    all_added c.push_assignment.result (meant_all c.args.all.now.items) (meant_all c.push_assignment.new.all.items) _ _
    (assign_names c.args.statement.now c.in-Assign.variable c.in-Assign.variable c.in-Assign.expr c.in-Assign.is refl)
    c.push_assignment.ensures

pub push_statement-returns-in-If : goal.push_statement-returns-in-If
push_statement-returns-in-If t c =
    and_added c.and.result c.push_choices.result c.push_statements.result (meant_all c.args.all.now.items) (meant_all c.push_choices.new.all.items)
    (meant_all c.push_statements.new.all.items) _ _ _
    (if_names c.args.statement.now c.in-If.choices c.in-If.others c.in-If.is)
    c.and.ensures c.push_choices.ensures c.push_statements.ensures

pub push_statement-returns-in-Case : goal.push_statement-returns-in-Case
push_statement-returns-in-Case t c =
    and_added c.and-in-Case-2.result c.and-in-Case.result c.push_statements-in-Case.result (meant_all c.args.all.now.items) (meant_all c.push_branches.new.all.items)
    (meant_all c.push_statements-in-Case.new.all.items) _ _ _
    (case_names c.args.statement.now c.in-Case.selector c.in-Case.branches c.in-Case.others c.in-Case.is)
    c.and-in-Case-2.ensures
    (and_added c.and-in-Case.result c.push_expression.result c.push_branches.result (meant_all c.args.all.now.items) (meant_all c.push_expression.new.all.items)
    (meant_all c.push_branches.new.all.items) _ _ _ refl c.and-in-Case.ensures c.push_expression.ensures c.push_branches.ensures)
    c.push_statements-in-Case.ensures

pub push_statement-returns-in-For : goal.push_statement-returns-in-For
push_statement-returns-in-For t c =
    let f = c.in-For in
    and_added c.and-in-For.result c.push_control.result c.push_statements-in-For.result (meant_all c.args.all.now.items) (meant_all c.push_control.new.all.items)
    (meant_all c.push_statements-in-For.new.all.items) _ _ _
    (for_names c.args.statement.now f.variable f.start f.end f.step f.body f.is)
    c.and-in-For.ensures c.push_control.ensures c.push_statements-in-For.ensures

pub push_statement-returns-in-While : goal.push_statement-returns-in-While
push_statement-returns-in-While t c =
    and_added c.and-in-While.result c.push_expression-in-While.result c.push_statements-in-While.result (meant_all c.args.all.now.items) (meant_all c.push_expression-in-While.new.all.items)
    (meant_all c.push_statements-in-While.new.all.items) _ _ _
    (while_names c.args.statement.now c.in-While.condition c.in-While.body c.in-While.is)
    c.and-in-While.ensures c.push_expression-in-While.ensures c.push_statements-in-While.ensures

pub push_statement-returns-in-Repeat : goal.push_statement-returns-in-Repeat
push_statement-returns-in-Repeat t c =
    and_added c.and-in-Repeat.result c.push_statements-in-Repeat.result c.push_expression-in-Repeat.result (meant_all c.args.all.now.items) (meant_all c.push_statements-in-Repeat.new.all.items)
    (meant_all c.push_expression-in-Repeat.new.all.items) _ _ _
    (repeat_names c.args.statement.now c.in-Repeat.body c.in-Repeat.condition c.in-Repeat.is)
    c.and-in-Repeat.ensures c.push_statements-in-Repeat.ensures c.push_expression-in-Repeat.ensures

pub push_statements-loop-statement-preserved : goal.push_statements-loop-statement-preserved
push_statements-loop-statement-preserved t c =
    one_added (λ (ss : List Stmt). mentions_body (all_of ss)) (λ (s : Stmt). mentions_in (stmt_of s)) c.as_slice-statement-items.result.now c.loop-statement.statement-index
    c.statement-item.result (meant_all c.loop-statement.all.items) (meant_all c.push_statement.new.all.items) _ (λ _ _. refl) c.loop-statement-test.true
    c.statement-item.is c.in_ok-push_statement.ensures c.loop-statement.invariant

pub push_statements-returns : goal.push_statements-returns
push_statements-returns t c =
    list_added (λ (ss : List Stmt). mentions_body (all_of ss)) c.as_slice-statement-items.result.now c.loop-statement.statement-index (meant_all c.loop-statement.all.items) _ refl
    c.loop-statement-test.false c.loop-statement.invariant
    ∙ ap (λ (ss : List Stmt). meant_all c.args.all.now.items ++ mentions_body (all_of ss)) c.as_slice-statement-items.ensures

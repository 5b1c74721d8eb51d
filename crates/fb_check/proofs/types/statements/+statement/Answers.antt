use Rattle.fb_check.proofs.lemmas.Common.{◌∷◌, ◌++◌, List, refl, sym, ◌∙◌, ap, map-append, stmt_of, Branch, Choice, Stmt, all_of, branch_of, branches_of, choice_of, choices_of, all_standing, each_in_body, each_in_branches, each_in_choices, standing_of}
use Rattle.fb_check.specs.types.Statements.{each_inside}
use Rattle.fb_check.proofs.lemmas.types.GrowingLists.{all_added, and_added, both_added, list_added, one_added}
use Rattle.fb_check.proofs.lemmas.types.InnerStatements.{inside_branch, inside_case, inside_choice, inside_if, inside_loop}
use Rattle.fb_check.proofs.types.statements.+statement.Goals as goal

pub push_branches-loop-branch-preserved : goal.push_branches-loop-branch-preserved
push_branches-loop-branch-preserved t c =
    let l = c.args.in_loop in
    let old = all_standing c.loop-branch.all.items in
    one_added (λ (bs : List Branch). each_in_branches l (branches_of bs)) (λ (b : Branch). each_in_body l (branch_of b).1) c.as_slice-branch-items.result.now
    c.loop-branch.branch-index c.branch-item.result old (all_standing c.push_statements.new.all.items) _ (λ _ _. refl) c.loop-branch-test.true c.branch-item.is
    (c.in_ok-push_statements.ensures ∙ ap (λ ss. old ++ ss) (sym (inside_branch l c.branch-item.result)))
    c.loop-branch.invariant

pub push_branches-returns : goal.push_branches-returns
push_branches-returns t c =
    list_added (λ (bs : List Branch). each_in_branches c.args.in_loop (branches_of bs)) c.as_slice-branch-items.result.now c.loop-branch.branch-index
    (all_standing c.loop-branch.all.items) _ refl c.loop-branch-test.false c.loop-branch.invariant
    ∙ ap (λ (bs : List Branch). all_standing c.args.all.now.items ++ each_in_branches c.args.in_loop (branches_of bs)) c.as_slice-branch-items.ensures

pub push_choices-loop-choice-preserved : goal.push_choices-loop-choice-preserved
push_choices-loop-choice-preserved t c =
    let l = c.args.in_loop in
    let old = all_standing c.loop-choice.all.items in
    one_added (λ (cs : List Choice). each_in_choices l (choices_of cs)) (λ (c : Choice). each_in_body l (choice_of c).1) c.as_slice-choice-items.result.now
    c.loop-choice.choice-index c.choice-item.result old (all_standing c.push_statements.new.all.items) _ (λ _ _. refl) c.loop-choice-test.true c.choice-item.is
    (c.in_ok-push_statements.ensures ∙ ap (λ ss. old ++ ss) (sym (inside_choice l c.choice-item.result)))
    c.loop-choice.invariant

pub push_choices-returns : goal.push_choices-returns
push_choices-returns t c =
    list_added (λ (cs : List Choice). each_in_choices c.args.in_loop (choices_of cs)) c.as_slice-choice-items.result.now c.loop-choice.choice-index
    (all_standing c.loop-choice.all.items) _ refl c.loop-choice-test.false c.loop-choice.invariant
    ∙ ap (λ (cs : List Choice). all_standing c.args.all.now.items ++ each_in_choices c.args.in_loop (choices_of cs)) c.as_slice-choice-items.ensures

pub push_inside-returns-in-If : goal.push_inside-returns-in-If
push_inside-returns-in-If t c =
    and_added c.and.result c.push_choices.result c.push_statements.result (all_standing c.args.all.now.items) (all_standing c.push_choices.new.all.items) (all_standing c.push_statements.new.all.items) _ _ _
    (inside_if c.args.in_loop c.args.statement.now c.in-If.choices c.in-If.others c.in-If.is)
    c.and.ensures c.push_choices.ensures c.push_statements.ensures

pub push_inside-returns-in-Case : goal.push_inside-returns-in-Case
push_inside-returns-in-Case t c =
    and_added c.and-in-Case.result c.push_branches.result c.push_statements-in-Case.result (all_standing c.args.all.now.items) (all_standing c.push_branches.new.all.items)
    (all_standing c.push_statements-in-Case.new.all.items) _ _ _
    (inside_case c.args.in_loop c.args.statement.now c.in-Case.field-0 c.in-Case.branches c.in-Case.others c.in-Case.is)
    c.and-in-Case.ensures c.push_branches.ensures c.push_statements-in-Case.ensures

pub push_statements-loop-statement-preserved : goal.push_statements-loop-statement-preserved
push_statements-loop-statement-preserved t c =
    let l = c.args.in_loop in
    one_added (λ (ss : List Stmt). each_in_body l (all_of ss)) (λ (s : Stmt). (l, stmt_of s) ∷ each_inside l (stmt_of s)) c.as_slice-statement-items.result.now
    c.loop-statement.statement-index c.statement-item.result (all_standing c.loop-statement.all.items) (all_standing c.push_inside.new.all.items) _ (λ _ _. refl)
    c.loop-statement-test.true c.statement-item.is
    (both_added (all_standing c.loop-statement.all.items) (all_standing c.push_one.new.all.items) _ _ _ (ap all_standing c.in_ok-push_one.ensures ∙ map-append standing_of c.loop-statement.all.items _)
    c.in_ok-push_inside.ensures)
    c.loop-statement.invariant

pub push_statements-returns : goal.push_statements-returns
push_statements-returns t c =
    list_added (λ (ss : List Stmt). each_in_body c.args.in_loop (all_of ss)) c.as_slice-statement-items.result.now c.loop-statement.statement-index
    (all_standing c.loop-statement.all.items) _ refl c.loop-statement-test.false c.loop-statement.invariant
    ∙ ap (λ (ss : List Stmt). all_standing c.args.all.now.items ++ each_in_body c.args.in_loop (all_of ss)) c.as_slice-statement-items.ensures

pub push_inside-returns-in-For : goal.push_inside-returns-in-For
push_inside-returns-in-For t c =
    all_added c.push_statements-in-For.result (all_standing c.args.all.now.items) (all_standing c.push_statements-in-For.new.all.items) _ _
    (inside_loop c.args.in_loop c.args.statement.now c.in-For.body c.in-For.is)
    c.push_statements-in-For.ensures

use Rattle.fb_types.proofs.Common.{◌++◌, List, refl, sym, ◌∙◌, ap, Stmts}
use Rattle.fb_types.specs.declared.text.Branch.{Branch}
use Rattle.fb_types.specs.declared.text.Label.{Label}
use Rattle.fb_check.specs.types.Trees.{branch_of, branches_of}
use Rattle.fb_check.proofs.lemmas.types.Meanings.{branch_says}
use Rattle.fb_lint.specs.Statements.{labels_in}
use Rattle.fb_check.proofs.lemmas.types.GrowingLists.{list_added, one_added}
use Rattle.fb_lint.proofs.statements.push_labels.Goals as goal

pub loop-branch-preserved : goal.loop-branch-preserved
loop-branch-preserved c =
    one_added (λ (xs : List Branch). labels_in (branches_of xs)) (λ (x : Branch). (branch_of x).0) c.args.branches.now c.loop-branch.branch-index
    c.branch-item.result (c.loop-branch.labels.items) _ _ (λ _ _. refl) c.loop-branch-test.true c.branch-item.is
    (c.in_ok-extend_from_slice.ensures.items
    ∙ ap (λ (ls : List Label). c.loop-branch.labels.items ++ ls) (c.as_slice.ensures ∙ ap (λ (e : List Label × Stmts). e.0) (sym (branch_says c.branch-item.result)))) c.loop-branch.invariant

pub returns : goal.returns
returns c =
    list_added (λ (xs : List Branch). labels_in (branches_of xs)) c.args.branches.now c.loop-branch.branch-index
    (c.loop-branch.labels.items) _ refl c.loop-branch-test.false c.loop-branch.invariant

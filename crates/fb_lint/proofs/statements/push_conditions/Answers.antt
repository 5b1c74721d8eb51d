use Rattle.fb_types.proofs.Common.{◌++◌, List, refl, sym, ◌∙◌, ap, Stmts, mentions}
use Rattle.fb_types.specs.declared.text.Choice.{Choice}
use Rattle.fb_types.specs.Syntax.{Expr}
use Rattle.fb_check.specs.types.Trees.{choice_of, choices_of}
use Rattle.fb_check.proofs.lemmas.types.Meanings.{choice_says}
use Rattle.fb_check.specs.types.Mentions.{meant_all}
use Rattle.fb_lint.specs.Statements.{read_by_conditions}
use Rattle.fb_check.proofs.lemmas.types.GrowingLists.{list_added, one_added}
use Rattle.fb_lint.proofs.statements.push_conditions.Goals as goal

pub loop-choice-preserved : goal.loop-choice-preserved
loop-choice-preserved c =
    one_added (λ (xs : List Choice). read_by_conditions (choices_of xs)) (λ (x : Choice). mentions (choice_of x).0) c.args.choices.now c.loop-choice.choice-index
    c.choice-item.result (meant_all c.loop-choice.reads.items) _ _ (λ _ _. refl) c.loop-choice-test.true c.choice-item.is
    (c.in_ok-push_expression.ensures ∙ ap (λ (e : Expr × Stmts). meant_all c.loop-choice.reads.items ++ mentions e.0) (sym (choice_says c.choice-item.result))) c.loop-choice.invariant

pub returns : goal.returns
returns c =
    list_added (λ (xs : List Choice). read_by_conditions (choices_of xs)) c.args.choices.now c.loop-choice.choice-index
    (meant_all c.loop-choice.reads.items) _ refl c.loop-choice-test.false c.loop-choice.invariant

use Rattle.fb_types.proofs.Common.{List, refl, sym, ◌∙◌, ap, Stmts}
use Rattle.fb_types.specs.declared.text.Choice.{Choice}
use Rattle.fb_types.specs.Syntax.{Expr}
use Rattle.fb_check.specs.types.Trees.{choice_of, choices_of}
use Rattle.fb_check.proofs.lemmas.types.Meanings.{choice_says}
use Rattle.fb_lint.specs.Constants.{condition_divides, divides_by_zero}
use Rattle.fb_lint.proofs.lemmas.Tests.{passes_here, passes_later, passes_never}
use Rattle.fb_lint.proofs.constants.condition_divides.Goals as goal

pub returns-then-divides_by_zero : goal.returns-then-divides_by_zero
returns-then-divides_by_zero c =
    sym
    (passes_here (λ (cs : List Choice). condition_divides (choices_of cs)) (λ (x : Choice). divides_by_zero (choice_of x).0) c.args.choices.now c.loop-choice.choice-index
    c.choice-item.result (λ _ _. refl) c.loop-choice-test.true c.choice-item.is
    (ap (λ (e : Expr × Stmts). divides_by_zero e.0) (choice_says c.choice-item.result) ∙ sym c.divides_by_zero.ensures ∙ c.if-divides_by_zero.true) c.loop-choice.invariant)

pub loop-choice-preserved : goal.loop-choice-preserved
loop-choice-preserved c =
    passes_later (λ (cs : List Choice). condition_divides (choices_of cs)) (λ (x : Choice). divides_by_zero (choice_of x).0) c.args.choices.now c.loop-choice.choice-index
    c.choice-item.result (λ _ _. refl) c.loop-choice-test.true c.choice-item.is
    (ap (λ (e : Expr × Stmts). divides_by_zero e.0) (choice_says c.choice-item.result) ∙ sym c.divides_by_zero.ensures ∙ c.if-divides_by_zero.false) c.loop-choice.invariant

pub returns : goal.returns
returns c =
    sym (passes_never (λ (cs : List Choice). condition_divides (choices_of cs)) c.args.choices.now c.loop-choice.choice-index refl c.loop-choice-test.false c.loop-choice.invariant)

use Rattle.fb_types.proofs.Common.{List, refl, sym, ◌∙◌, ap, expr_of}
use Rattle.fb_types.specs.declared.text.Expr.{Expr}
use Rattle.fb_check.specs.types.Trees.{arguments_of}
use Rattle.fb_lint.specs.Constants.{divides_by_zero, some_divides}
use Rattle.fb_lint.proofs.lemmas.Tests.{passes_here, passes_later, passes_never}
use Rattle.fb_lint.proofs.constants.+division.Goals as goal

pub some_divides-returns-then-divides_by_zero : goal.some_divides-returns-then-divides_by_zero
some_divides-returns-then-divides_by_zero t c =
    sym
    (ap (λ (es : List Expr). some_divides (arguments_of es)) (sym c.as_slice-argument-items.ensures)
    ∙ passes_here (λ (es : List Expr). some_divides (arguments_of es)) (λ (e : Expr). divides_by_zero (expr_of e)) c.as_slice-argument-items.result.now c.loop-argument.argument-index
    c.argument-item.result (λ _ _. refl) c.loop-argument-test.true c.argument-item.is (sym c.divides_by_zero.ensures ∙ c.if-divides_by_zero.true) c.loop-argument.invariant)

pub some_divides-loop-argument-preserved : goal.some_divides-loop-argument-preserved
some_divides-loop-argument-preserved t c =
    passes_later (λ (es : List Expr). some_divides (arguments_of es)) (λ (e : Expr). divides_by_zero (expr_of e)) c.as_slice-argument-items.result.now c.loop-argument.argument-index
    c.argument-item.result (λ _ _. refl) c.loop-argument-test.true c.argument-item.is (sym c.divides_by_zero.ensures ∙ c.if-divides_by_zero.false) c.loop-argument.invariant

pub some_divides-returns : goal.some_divides-returns
some_divides-returns t c =
    sym
    (ap (λ (es : List Expr). some_divides (arguments_of es)) (sym c.as_slice-argument-items.ensures)
    ∙ passes_never (λ (es : List Expr). some_divides (arguments_of es)) c.as_slice-argument-items.result.now c.loop-argument.argument-index refl c.loop-argument-test.false c.loop-argument.invariant)

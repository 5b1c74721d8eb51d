use Rattle.fb_types.proofs.Common.{◌≡◌, ◌∙◌, ◌<◌, ℕ, List, Some, length, sym, ap, subst, below_more, arith, slice_get, slice_get-get_or, slice_get_within}
use Rattle.fb_types.specs.declared.text.Expr.{Expr}
use Rattle.fb_st.specs.Frames.{values_of}
use Rattle.fb_stop.specs.Operations.{HasValue}
use Rattle.fb_stop.proofs.operation.first_without.Goals as goal

same_some : (x e : Expr) (xs : List Expr) (i : ℕ) → slice_get xs i ≡ Some x → slice_get xs i ≡ Some e → x ≡ e
same_some x e xs i a b = let both : Some x ≡ Some e = sym a ∙ b in cc

pub returns-then-not-has_value-clause-some : goal.returns-then-not-has_value-clause-some
returns-then-not-has_value-clause-some c =
    let xs : List Expr = c.args.arguments.now in
    let x : Expr = c.index-arguments-index.result in
    record {
      argument = x;
      at = slice_get-get_or xs c.loop-index.index x c.loop-index-test.true ∙ ap Some (sym c.index-arguments-index.is);
      before = λ k e below at. c.loop-index.invariant k below e at;
      without = c.has_value.ensures.none c.if-not-has_value.true;
    }

pub loop-index-preserved : goal.loop-index-preserved
loop-index-preserved c =
    let xs : List Expr = c.args.arguments.now in
    let x : Expr = c.index-arguments-index.result in
    let here : slice_get xs c.loop-index.index ≡ Some x = slice_get-get_or xs c.loop-index.index x c.loop-index-test.true ∙ ap Some (sym c.index-arguments-index.is) in
    below_more _ _ c.loop-index.invariant
    (λ e at. subst (HasValue (values_of c.args.frame.now)) (same_some x e xs c.loop-index.index here at) (c.has_value.ensures.has c.if-not-has_value.false))

pub returns-clause-none : goal.returns-clause-none
returns-clause-none c = λ k e at.
    let xs : List Expr = c.args.arguments.now in
    let within : k < length xs = slice_get_within xs k e at in
    let over = c.loop-index-test.false in
    c.loop-index.invariant k (omega (arith, within, over)) e at

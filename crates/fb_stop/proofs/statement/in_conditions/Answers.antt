use Rattle.fb_types.proofs.Common.{◌≡◌, ◌∙◌, ◌<◌, ℕ, List, Some, length, sym, ap, subst, below_more, arith, slice_get, slice_get-get_or, slice_get_within}
use Rattle.fb_types.specs.declared.text.Choice.{Choice, out-Choice}
use Rattle.fb_st.specs.Frames.{values_of}
use Rattle.fb_stop.specs.Operations.{IsOtherwise}
use Rattle.fb_stop.proofs.statement.in_conditions.Goals as goal

same_some : (x e : Choice) (cs : List Choice) (i : ℕ) → slice_get cs i ≡ Some x → slice_get cs i ≡ Some e → x ≡ e
same_some x e cs i a b = let both : Some x ≡ Some e = sym a ∙ b in cc

pub returns-in-Some-clause-found : goal.returns-in-Some-clause-found
returns-in-Some-clause-found c =
    let cs : List Choice = c.args.choices.now in
    let x : Choice = c.index-choices-index.result in
    record {
      index = c.loop-index.index;
      choice = x;
      at = slice_get-get_or cs c.loop-index.index x c.loop-index-test.true ∙ ap Some (sym c.index-choices-index.is);
      anchor = c.in-Some.ensures.anchor ∙ c.anchor_of-anchor.ensures;
      fault = c.in-Some.ensures.fault;
    }

pub loop-index-preserved : goal.loop-index-preserved
loop-index-preserved c =
    let cs : List Choice = c.args.choices.now in
    let x : Choice = c.index-choices-index.result in
    let here : slice_get cs c.loop-index.index ≡ Some x = slice_get-get_or cs c.loop-index.index x c.loop-index-test.true ∙ ap Some (sym c.index-choices-index.is) in
    below_more _ _ c.loop-index.invariant
    (λ e at. subst (λ (z : Choice). IsOtherwise (values_of c.args.frame.now) c.args.reason (out-Choice z).condition) (same_some x e cs c.loop-index.index here at) c.in_default.ensures.none)

pub returns-clause-none : goal.returns-clause-none
returns-clause-none c = λ k e at.
    let within : k < length c.args.choices.now = slice_get_within c.args.choices.now k e at in
    let over = c.loop-index-test.false in
    c.loop-index.invariant k (omega (arith, within, over)) e at

use Rattle.fb_types.proofs.Common.{◌≡◌, ◌∙◌, ℕ, Some, sym, ap, below_more, arith, slice_get, slice_get-get_or, slice_get_within}
use Rattle.fb_read.specs.declared.token.Located.{Located}
use Rattle.fb_stop.specs.Shown.{IsTokenAt}
use Rattle.fb_stop.proofs.lemmas.operations.OperationTokens.{same-item}
use Rattle.fb_stop.proofs.shown.token_at.Goals as goal

pub loop-index-preserved : goal.loop-index-preserved
loop-index-preserved c = λ k low there.
    let ps = c.args.tokens.now in
    let offset = c.args.offset in
    let i = c.loop-index.index in
    let x = c.index-tokens-index.result in
    let read : slice_get ps i ≡ Some x = slice_get-get_or ps i x c.loop-index-test.true ∙ ap Some (sym c.index-tokens-index.is) in
    below_more (λ (j : ℕ). IsTokenAt ps offset j → ⊥) i (λ j low there. c.loop-index.invariant j low there)
    (λ there. let same : there.0.index ≡ x.index = ap (λ (t : Located). t.index) (same-item there.0 x (sym there.1 ∙ read)) in omega (arith, same, there.2)) k low there

pub returns : goal.returns
returns c = λ k there.
    let within = slice_get_within c.args.tokens.now k there.0 there.1 in
    c.loop-index.invariant k (omega (arith, within, c.loop-index-test.false)) there

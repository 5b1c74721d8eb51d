use Rattle.fb_types.proofs.Common.{◌≡◌, ◌<◌, ℕ, below_more, get_or, length, sym, ap, ◌∙◌, arith, both_ways, true≢false, Decides-eqb, get_or_default, slice_eq-Decides}
use Rattle.fb_wave.specs.Reading.{name_at}
use Rattle.fb_inspect.proofs.lemmas.words.BoundValues.{same_variable}
use Rattle.fb_inspect.proofs.refused.fault_values.is_known.Goals as goal

pub loop-index-preserved : goal.loop-index-preserved
loop-index-preserved c = λ i d below.
    let us = c.args.variables.now in
    let ks = c.args.indexes.now in
    let n = c.args.name.now in
    let at = c.loop-index.index-index in
    let k = get_or ks at 0 in
    let within : at < length ks = omega arith in
    below_more (λ j. (e : ℕ) → name_at us (get_or ks j e) ≡ n → ⊥) at (λ j low e. c.loop-index.invariant j e low)
    (λ e same.
    both_ways _ c.if-eq.false
    ((slice_eq-Decides Decides-eqb c.as_bytes.result.now n c.eq.result c.eq.ensures).1
    (same_variable us k c.index-variables-index.result c.as_bytes.result.now (c.requires at 0 within) c.as_bytes.ensures
    ∙ ap (name_at us) (sym (get_or_default ks at e 0 within)) ∙ same)))
    i below d

pub returns-then-eq : goal.returns-then-eq
returns-then-eq c = λ no. absurd (true≢false no)

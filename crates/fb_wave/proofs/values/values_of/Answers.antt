use Rattle.fb_types.proofs.Common.{◌≡◌, ◌+◌, ◌<◌, [], ◌∷◌, length, get_or, sym, subst, ◌∙◌, arith, both_ways, Decides-eqb, get_or_default, slice_eq-Decides}
use Rattle.fb_types.specs.declared.library.Variable.{Variable}
use Rattle.fb_wave.specs.Reading.{IsBound, IsUnbound}
use Rattle.fb_wave.proofs.lemmas.Valued.{AreSoFar, all_read, more_left, one_more, unbound_so_far}
use Rattle.fb_wave.proofs.values.values_of.Goals as goal

pub returns-in_default : goal.returns-in_default
returns-in_default c =
    let us = c.args.variables.now in
    let ks = c.args.indexes.now in
    let i = c.loop-index.index-index in
    let k = get_or ks i 0 in
    let d = c.index-variables-index.result in
    let within : i < length ks = omega arith in
    unbound_so_far us ks c.args.text.now i k c.loop-index.values c.loop-index.rest.now d c.loop-index.invariant within (get_or_default ks i 0 k within) (c.requires i 0 within)
    (subst (λ (x : Variable). IsUnbound x.name x.ty c.loop-index.rest.now) c.index-variables-index.is c.in_default.ensures)

pub loop-index-preserved : goal.loop-index-preserved
loop-index-preserved c =
    let us = c.args.variables.now in
    let ks = c.args.indexes.now in
    let i = c.loop-index.index-index in
    let k = get_or ks i 0 in
    let d = c.index-variables-index.result in
    let bound = c.in-Some.bound in
    let within : i < length ks = omega arith in
    subst (λ vs. AreSoFar us ks c.args.text.now (i + 1) vs bound.1.now) (sym c.in_ok-push.ensures.ok)
    (one_more us ks c.args.text.now i k c.loop-index.values c.loop-index.rest.now d bound.0 bound.1.now c.loop-index.invariant within (get_or_default ks i 0 k within) (c.requires i 0 within)
    (subst (λ (x : Variable). IsBound x.name x.ty c.loop-index.rest.now bound.0 bound.1.now) c.index-variables-index.is c.in-Some.ensures))

pub returns-then-eq : goal.returns-then-eq
returns-then-eq c =
    let ks = c.args.indexes.now in
    let end : c.loop-index.index-index ≡ length ks = omega arith in
    let feed : c.as_slice.result.now ≡ 10 ∷ [] = c.as_slice.ensures in
    all_read c.args.variables.now ks c.args.text.now c.loop-index.index-index c.loop-index.values c.loop-index.rest.now c.loop-index.invariant end
    ((slice_eq-Decides Decides-eqb c.loop-index.rest.now c.as_slice.result.now c.eq.result c.eq.ensures).0 c.if-eq.true ∙ feed)

pub returns-else-eq : goal.returns-else-eq
returns-else-eq c =
    let ks = c.args.indexes.now in
    let end : c.loop-index.index-index ≡ length ks = omega arith in
    let feed : c.as_slice.result.now ≡ 10 ∷ [] = c.as_slice.ensures in
    more_left c.args.variables.now ks c.args.text.now c.loop-index.index-index c.loop-index.values c.loop-index.rest.now c.loop-index.invariant end
    (λ e. both_ways _ c.if-eq.false ((slice_eq-Decides Decides-eqb c.loop-index.rest.now c.as_slice.result.now c.eq.result c.eq.ensures).1 (e ∙ sym feed)))

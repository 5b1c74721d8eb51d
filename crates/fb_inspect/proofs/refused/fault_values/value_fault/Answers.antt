use Rattle.fb_types.proofs.Common.{◌≡◌, ◌+◌, ◌<◌, [], ◌∷◌, ◌++◌, length, get_or, refl, sym, subst, ◌∙◌, arith, both_ways, Decides-eqb, get_or_default, slice_eq-Decides}
use Rattle.fb_types.specs.declared.library.Variable.{Variable}
use Rattle.fb_wave.specs.Reading.{IsBound, IsUnbound}
use Rattle.fb_wave.proofs.lemmas.Valued.{all_read, none_so_far, one_more}
use Rattle.fb_inspect.proofs.lemmas.words.BoundValues.{has_first, unbound_at}
use Rattle.fb_inspect.proofs.refused.fault_values.value_fault.Goals as goal

pub loop-number-init : goal.loop-number-init
loop-number-init c = ([], none_so_far c.args.variables.now c.args.indexes.now c.args.text.now)

pub unbound_fault-requires-clause-unbound : goal.unbound_fault-requires-clause-unbound
unbound_fault-requires-clause-unbound c =
    let us = c.args.variables.now in
    let ks = c.args.indexes.now in
    let i = c.loop-number.number in
    let k = get_or ks i 0 in
    let d = c.index-variables-index.result in
    let within : i < length ks = omega arith in
    unbound_at us k d c.loop-number.rest.now (c.requires i 0 within) (subst (λ (x : Variable). IsUnbound x.name x.ty c.loop-number.rest.now) c.index-variables-index.is c.in_default.ensures)

pub returns-in_default : goal.returns-in_default
returns-in_default c =
    c.unbound_fault.ensures c.args.text.now
    (has_first c.args.variables.now c.args.indexes.now c.args.text.now c.loop-number.number c.loop-number.number c.loop-number.invariant.0 c.loop-number.rest.now refl c.loop-number.invariant.1)

pub loop-number-preserved : goal.loop-number-preserved
loop-number-preserved c =
    let us = c.args.variables.now in
    let ks = c.args.indexes.now in
    let i = c.loop-number.number in
    let k = get_or ks i 0 in
    let d = c.index-variables-index.result in
    let bound = c.in-Some.bound in
    let within : i < length ks = omega arith in (
      c.loop-number.invariant.0 ++ bound.0 ∷ [],
      one_more us ks c.args.text.now i k c.loop-number.invariant.0 c.loop-number.rest.now d bound.0 bound.1.now c.loop-number.invariant.1 within (get_or_default ks i 0 k within) (c.requires i 0 within)
          (subst (λ (x : Variable). IsBound x.name x.ty c.loop-number.rest.now bound.0 bound.1.now) c.index-variables-index.is c.in-Some.ensures),
    )

pub returns-then-eq : goal.returns-then-eq
returns-then-eq c =
    let ks = c.args.indexes.now in
    let end : c.loop-number.number ≡ length ks = omega arith in
    let feed : c.as_slice.result.now ≡ 10 ∷ [] = c.as_slice.ensures in (
      c.loop-number.invariant.0,
      all_read c.args.variables.now ks c.args.text.now c.loop-number.number c.loop-number.invariant.0 c.loop-number.rest.now c.loop-number.invariant.1 end
          ((slice_eq-Decides Decides-eqb c.loop-number.rest.now c.as_slice.result.now c.eq.result c.eq.ensures).0 c.if-eq.true ∙ feed),
    )

pub returns-else-eq : goal.returns-else-eq
returns-else-eq c =
    let ks = c.args.indexes.now in
    let end : c.loop-number.number ≡ length ks = omega arith in
    let feed : c.as_slice.result.now ≡ 10 ∷ [] = c.as_slice.ensures in (
      has_first c.args.variables.now ks c.args.text.now c.loop-number.number (length ks) c.loop-number.invariant.0 c.loop-number.rest.now end c.loop-number.invariant.1,
      λ e. both_ways _ c.if-eq.false ((slice_eq-Decides Decides-eqb c.loop-number.rest.now c.as_slice.result.now c.eq.result c.eq.ensures).1 (e ∙ sym feed)),
    )

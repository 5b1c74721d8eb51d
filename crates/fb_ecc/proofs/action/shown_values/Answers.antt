use Rattle.fb_types.proofs.Common.{ℕ, List, [], ◌∷◌, ◌++◌, map, ◌∙◌, ap, arith, take_all}
use Rattle.fb_types.specs.declared.value.Value.{Value}
use Rattle.fb_st.specs.Frames.{declared_in, values_of}
use Rattle.fb_ecc.proofs.lemmas.Located.{at_index, read_there, same_count, values_more}
use Rattle.fb_ecc.proofs.action.shown_values.Goals as goal

pub loop-slot-preserved : goal.loop-slot-preserved
loop-slot-preserved c = λ names are.
    let vars = values_of c.args.frame.now in
    let i : ℕ = c.loop-slot.slot-index in
    let at = at_index (declared_in c.args.frame.now) names c.args.slots.now i are c.loop-slot-test.true in
    let value = read_there _ at.0 c.value_at.result vars c.value_at.ensures at.1 in
    c.in_ok-push.ensures.ok ∙ ap (λ (vs : List Value). vs ++ c.value_at.result ∷ []) (c.loop-slot.invariant names are)
    ∙ values_more vars names i at.0.0 c.value_at.result at.2 value

pub returns : goal.returns
returns c = λ names are.
    let same = same_count (declared_in c.args.frame.now) names c.args.slots.now are in
    let over = c.loop-slot-test.false in
    c.loop-slot.invariant names are ∙ ap (map (values_of c.args.frame.now)) (take_all c.loop-slot.slot-index names (omega (arith, same, over)))

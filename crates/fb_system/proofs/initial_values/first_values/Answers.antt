use Rattle.fb_types.proofs.Common.{List, ◌++◌, [], ◌∷◌, map, take, sym, ap, ◌∙◌, arith, take_at_read, map-append, take_all, initial_of}
use Rattle.fb_types.specs.declared.library.Variable.{Variable}
use Rattle.fb_types.specs.declared.value.Value.{Value}
use Rattle.fb_system.proofs.initial_values.first_values.Goals as goal

pub loop-variable-preserved : goal.loop-variable-preserved
loop-variable-preserved c =
    let us = c.args.variables.now in
    let n = c.loop-variable.variable-index in
    let u = c.variable-item.result in
    c.in_ok-push.ensures.items
    ∙ ap (λ (vs : List Value). vs ++ c.first_value.result ∷ []) c.loop-variable.invariant
    ∙ ap (λ (v : Value). map initial_of (take n us) ++ v ∷ []) c.first_value.ensures
    ∙ sym (map-append initial_of (take n us) (u ∷ []))
    ∙ ap (map initial_of) (ap (λ (x : Variable). take n us ++ x ∷ []) c.variable-item.is ∙ sym (take_at_read us n u c.loop-variable-test.true).1)

pub returns : goal.returns
returns c = c.loop-variable.invariant ∙ ap (map initial_of) (take_all c.loop-variable.variable-index c.args.variables.now (omega (arith, c.loop-variable-test.false)))

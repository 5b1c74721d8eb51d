use Rattle.fb_types.proofs.Common.{◌∷◌, ◌++◌, [], List, ap, map, sym, ◌∙◌, take_all, Name, Values}
use Rattle.fb_types.specs.declared.value.Value.{Value}
use Rattle.fb_types.proofs.lemmas.lists.LoopSteps.{map_take_more}
use Rattle.fb_st.specs.Frames.{values_of}
use Rattle.fb_inspect.proofs.walk.blocks.keep_values.Goals as goal

pub loop-variable-preserved : goal.loop-variable-preserved
loop-variable-preserved c =
    let f : Values = values_of c.args.frame.now in
    let xs : List Name = c.args.variables.now in
    let x : Name = c.variable-item.result in
    let old : List Value = c.loop-variable.before.items in
    c.in_ok-push.ensures.items ∙ ap (λ (v : Value). old ++ v ∷ []) c.value.ensures ∙ ap (λ (l : List Value). l ++ f x ∷ []) c.loop-variable.invariant
    ∙ sym (map_take_more f xs c.loop-variable.variable-index x c.loop-variable-test.true c.variable-item.is)

pub returns : goal.returns
returns c =
    let xs : List Name = c.args.variables.now in
    c.loop-variable.invariant ∙ ap (map (values_of c.args.frame.now)) (take_all c.loop-variable.variable-index xs c.loop-variable-test.false)

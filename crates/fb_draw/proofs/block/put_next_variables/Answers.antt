use Rattle.fb_types.specs.declared.library.Variable.{Variable}
use Rattle.fb_draw.specs.Networks as spec
use Rattle.fb_text.proofs.lemmas.Adding.{list_added, next_added}
use Rattle.fb_draw.proofs.block.put_next_variables.Goals as goal

pub loop-variable-preserved : goal.loop-variable-preserved
loop-variable-preserved c =
    next_added (λ (v : Variable). spec.next_field v.name) c.args.variables.now c.loop-variable.variable-index c.variable-item.result c.loop-variable.text.items _ _ c.loop-variable-test.true c.variable-item.is
    c.in_ok-put_field.ensures c.loop-variable.invariant

pub returns : goal.returns
returns c = list_added (λ (v : Variable). spec.next_field v.name) c.args.variables.now c.loop-variable.variable-index _ _ c.loop-variable-test.false c.loop-variable.invariant

use Rattle.fb_draw.specs.Networks as spec
use Rattle.fb_text.proofs.lemmas.Adding.{list_added, next_added}
use Rattle.fb_draw.proofs.block.put_parameters.Goals as goal

pub loop-parameter-preserved : goal.loop-parameter-preserved
loop-parameter-preserved c =
    next_added spec.parameter_text c.args.parameters.now c.loop-parameter.parameter-index c.parameter-item.result c.loop-parameter.text.items _ _ c.loop-parameter-test.true c.parameter-item.is
    c.in_ok-put_parameter.ensures c.loop-parameter.invariant

pub returns : goal.returns
returns c = list_added spec.parameter_text c.args.parameters.now c.loop-parameter.parameter-index _ _ c.loop-parameter-test.false c.loop-parameter.invariant

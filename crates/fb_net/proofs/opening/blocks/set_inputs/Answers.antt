use Rattle.fb_types.proofs.Common.{◌∙◌, ◌<◌, length, arith, slice_get-get_or}
use Rattle.fb_net.proofs.lemmas.opening.Frames.{at_index, declared_step, values_step}
use Rattle.fb_net.proofs.opening.blocks.set_inputs.Goals as goal

pub put-requires : goal.put-requires
put-requires c =
    declared_step _ _ c.args.inputs.now c.loop-index.index c.index-inputs-index.result _ c.loop-index.invariant.declared c.requires.declared
    (at_index _ _ _ c.loop-index-test.true c.index-inputs-index.is) (c.new-variable.ensures ∙ c.in_ok-try_clone.ensures)

pub loop-index-preserved : goal.loop-index-preserved
loop-index-preserved c =
    let long = c.requires.as_many in
    let within : c.loop-index.index < length c.args.values.now = omega (arith, long) in
    record {
      values =
          values_step c.args.inputs.now c.args.values.now c.loop-index.index c.index-inputs-index.result _ _ _ _ _
          (at_index _ _ _ c.loop-index-test.true c.index-inputs-index.is) (c.new-variable.ensures ∙ c.in_ok-try_clone.ensures)
          (slice_get-get_or c.args.values.now c.loop-index.index _ within) c.put.ensures.value c.loop-index.invariant.values;
      declared = c.put.ensures.declared ∙ c.loop-index.invariant.declared;
    }

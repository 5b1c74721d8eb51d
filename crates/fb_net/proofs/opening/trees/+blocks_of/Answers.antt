use Rattle.fb_types.proofs.Common.{◌≤◌, arith, slice_get-get_or}
use Rattle.fb_net.proofs.lemmas.opening.Growing.{deeper, grown_none, grown_step, room}
use Rattle.fb_net.proofs.opening.trees.+blocks_of.Goals as goal

pub overflow_sub-depth : goal.overflow_sub-depth
overflow_sub-depth t c =
    room c.args.system.now c.args.depth _ c.facts.ensures.accepted
    (c.requires.deep c.loop-instance.instance-index _ (slice_get-get_or c.args.instances.now c.loop-instance.instance-index 0 c.loop-instance-test.true))

pub blocks_of-requires : goal.blocks_of-requires
blocks_of-requires t c =
    let deep = c.requires.deep c.loop-instance.instance-index _ (slice_get-get_or c.args.instances.now c.loop-instance.instance-index 0 c.loop-instance-test.true) in
    let enough : 1 ≤ c.args.depth = room c.args.system.now c.args.depth _ c.facts.ensures.accepted deep in (
      omega (arith, enough),
      (
        deeper c.args.system.now c.args.depth _ c.components-inside.result.now c.facts.ensures.accepted deep c.components-inside.ensures,
        c.loop-instance.invariant.charts,
      ),
    )

pub block_of-requires-clause-instance : goal.block_of-requires-clause-instance
block_of-requires-clause-instance t c =
    (c.requires.deep c.loop-instance.instance-index _ (slice_get-get_or c.args.instances.now c.loop-instance.instance-index 0 c.loop-instance-test.true)).number

pub loop-instance-init : goal.loop-instance-init
loop-instance-init t c = record {
  grown = rw c.new-blocks.ensures (grown_none c.args.system.now c.args.depth c.args.instances.now);
  charts = c.requires.charts;
}

pub loop-instance-preserved : goal.loop-instance-preserved
loop-instance-preserved t c =
    record {
      grown =
          grown_step c.args.system.now c.args.depth c.loop-instance.instance-index c.args.instances.now c.components-inside.result.now c.loop-instance.blocks
          c.in_ok-components.components _ c.in_ok-block_of.field-0 c.facts.ensures.accepted c.requires.deep c.loop-instance-test.true
          c.components-inside.ensures c.in_ok-components.ensures.grown c.in_ok-block_of.ensures.represents c.in_ok-block_of.ensures.components c.in_ok-push.ensures.ok
          c.loop-instance.invariant.grown;
      charts = c.in_ok-block_of.ensures.charts;
    }

use Rattle.fb_draw.specs.Networks as spec
use Rattle.fb_text.proofs.lemmas.Adding.{list_added, next_added}
use Rattle.fb_draw.proofs.network.put_instances.Goals as goal

pub loop-instance-preserved : goal.loop-instance-preserved
loop-instance-preserved c =
    next_added (spec.instance_node c.args.library.now) c.args.instances.now c.loop-instance.instance-index c.instance-item.result c.loop-instance.text.items _ _ c.loop-instance-test.true c.instance-item.is
    c.in_ok-put_instance.ensures c.loop-instance.invariant

pub returns : goal.returns
returns c = list_added (spec.instance_node c.args.library.now) c.args.instances.now c.loop-instance.instance-index _ _ c.loop-instance-test.false c.loop-instance.invariant

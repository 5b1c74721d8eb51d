use Rattle.fb_types.specs.declared.library.Instance.{Instance}
use Rattle.fb_draw.specs.Resources as spec
use Rattle.fb_text.proofs.lemmas.Adding.{list_added, next_added}
use Rattle.fb_draw.proofs.resource.put_whole.Goals as goal

pub loop-instance-preserved : goal.loop-instance-preserved
loop-instance-preserved c =
    next_added (λ (i : Instance). spec.member i.name) c.args.instances.now c.loop-instance.instance-index c.instance-item.result c.loop-instance.text.items _ _ c.loop-instance-test.true c.instance-item.is
    c.in_ok-put_member.ensures c.loop-instance.invariant

pub returns : goal.returns
returns c = list_added (λ (i : Instance). spec.member i.name) c.args.instances.now c.loop-instance.instance-index _ _ c.loop-instance-test.false c.loop-instance.invariant

use Rattle.fb_draw.specs.Resources as spec
use Rattle.fb_text.proofs.lemmas.Adding.{list_added, next_added}
use Rattle.fb_draw.proofs.resource.put_listed.Goals as goal

pub loop-name-preserved : goal.loop-name-preserved
loop-name-preserved c =
    next_added spec.member c.args.names.now c.loop-name.name-index c.name-item.result c.loop-name.text.items _ _ c.loop-name-test.true c.name-item.is
    c.in_ok-put_member.ensures c.loop-name.invariant

pub returns : goal.returns
returns c = list_added spec.member c.args.names.now c.loop-name.name-index _ _ c.loop-name-test.false c.loop-name.invariant

use Rattle.fb_draw.specs.Resources as spec
use Rattle.fb_text.proofs.lemmas.Adding.{list_added, next_added}
use Rattle.fb_draw.proofs.resource.put_links.Goals as goal

pub loop-link-preserved : goal.loop-link-preserved
loop-link-preserved c =
    next_added spec.link_edge c.args.links.now c.loop-link.link-index c.link-item.result c.loop-link.text.items _ _ c.loop-link-test.true c.link-item.is
    c.in_ok-put_link.ensures c.loop-link.invariant

pub returns : goal.returns
returns c = list_added spec.link_edge c.args.links.now c.loop-link.link-index _ _ c.loop-link-test.false c.loop-link.invariant

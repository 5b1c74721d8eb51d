use Rattle.fb_draw.specs.Resources as spec
use Rattle.fb_text.proofs.lemmas.Adding.{put_as}
use Rattle.fb_draw.proofs.resource.put_link_head.Goals as goal

pub returns : goal.returns
returns c = put_as c.put_all.result _ _ _ _ (λ i. spec.link_head (c.as_bytes-from.ensures i) (c.as_bytes-to.ensures i)) c.put_all.ensures

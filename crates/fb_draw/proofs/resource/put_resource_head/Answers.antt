use Rattle.fb_draw.specs.Resources as spec
use Rattle.fb_text.proofs.lemmas.Adding.{put_as}
use Rattle.fb_draw.proofs.resource.put_resource_head.Goals as goal

pub returns : goal.returns
returns c = put_as c.put_all.result _ _ _ _ (λ i. spec.resource_head (c.as_bytes.ensures i) (c.as_bytes-name.ensures i)) c.put_all.ensures

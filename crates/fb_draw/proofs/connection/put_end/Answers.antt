use Rattle.std.proofs.Common.{[], ◌∷◌, codes}
use Rattle.fb_text.specs.Pieces.{joined}
use Rattle.fb_text.proofs.lemmas.Adding.{put_as}
use Rattle.fb_draw.proofs.connection.put_end.Goals as goal

pub returns : goal.returns
returns c =
    put_as c.put_all.result _ _ _ _ (λ i. joined (codes "\"" ∷ c.node_of.ensures i ∷ codes "\":\"" ∷ c.as_bytes.ensures i ∷ codes "\"" ∷ []))
    c.put_all.ensures

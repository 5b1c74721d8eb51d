use Rattle.fb_wave.proofs.lemmas.Handing.{on_put}
use Rattle.fb_inspect.proofs.walk.notes.put_cut.Goals as goal

pub returns : goal.returns
returns c = on_put c.extend_from_slice.result _ _ _ _ c.extend_from_slice.ensures.items (λ e. e)

use Rattle.fb_wave.proofs.lemmas.Handing.{on_ok}
use Rattle.fb_inspect.proofs.walk.charts.keep_before.Goals as goal

pub returns-in-Some : goal.returns-in-Some
returns-in-Some c = on_ok c.keep_values.result _ _ c.keep_values.ensures (λ kept some. kept)

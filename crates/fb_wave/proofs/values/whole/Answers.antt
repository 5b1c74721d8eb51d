use Rattle.fb_wave.proofs.lemmas.Valued.{signed_whole}
use Rattle.fb_wave.proofs.values.whole.Goals as goal

pub returns-in-Some : goal.returns-in-Some
returns-in-Some c = signed_whole c.below_zero.result c.args.text.now c.in-Some.digits.now c.in-Some.ensures c.below_zero.ensures

use Rattle.fb_wave.proofs.lemmas.Numerals.{narrowed}
use Rattle.fb_wave.proofs.number.magnitude.Goals as goal

pub returns : goal.returns
returns c = narrowed c.narrow.result c.in_ok-natural.field-0 c.args.text.now c.in_ok-natural.ensures c.narrow.ensures

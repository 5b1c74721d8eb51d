use Rattle.std.proofs.Common.{rules}
use Rattle.fb_wave.proofs.lemmas.Ends.{other_end}
use Rattle.fb_wave.proofs.last.horizon_of.Goals as goal

pub returns-then-ne : goal.returns-then-ne
returns-then-ne c = other_end c.args.text.now c.in_ok-parts.parts.0.now c.in_ok-parts.parts.1.now c.in_ok-parts.ensures (search rules)

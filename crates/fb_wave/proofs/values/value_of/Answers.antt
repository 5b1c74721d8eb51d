use Rattle.std.proofs.Common.{sym, ◌∙◌}
use Rattle.fb_wave.proofs.lemmas.Valued.{other_value}
use Rattle.fb_wave.proofs.values.value_of.Goals as goal

pub returns-else-holds : goal.returns-else-holds
returns-else-holds c = other_value c.args.ty c.args.text.now c.in_ok-value.value c.in_ok-value.ensures (sym c.holds.ensures ∙ c.if-holds.false)

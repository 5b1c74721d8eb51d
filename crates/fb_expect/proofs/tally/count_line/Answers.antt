use Rattle.std.proofs.Common.{sym, subst}
use Rattle.fb_expect.specs.Deciding.{Counts}
use Rattle.fb_expect.specs.declared.tally.Tally.{Tally}
use Rattle.fb_expect.specs.declared.tally.Tally.TheVariants.{Windows}
use Rattle.fb_expect.proofs.lemmas.rules.Tallying.{counts-windows}
use Rattle.fb_expect.proofs.tally.count_line.Goals as goal

pub returns-in-Windows : goal.returns-in-Windows
returns-in-Windows c = subst (λ (t : Tally). Counts t c.args.line c.args.hit Windows) (sym c.in-Windows.is) (counts-windows c.args.line c.args.hit)

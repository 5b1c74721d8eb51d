use Rattle.std.proofs.Common.{◌^◌, sym, subst, arith}
use Rattle.fb_expect.specs.Deciding.{Decides}
use Rattle.fb_expect.specs.declared.tally.Tally.{Tally}
use Rattle.fb_expect.proofs.lemmas.rules.Tallying.{decides-events, decides-inside, decides-windows}
use Rattle.fb_expect.proofs.tally.decided_by.Goals as goal

pub returns-in-Events : goal.returns-in-Events
returns-in-Events c =
    subst (λ (t : Tally). Decides c.args.need t c.args.line c.args.end c.in-Events.count) (sym c.in-Events.is)
    (decides-events c.args.need c.in-Events.count c.args.line c.args.end)

pub returns-in-Stretches : goal.returns-in-Stretches
returns-in-Stretches c =
    subst (λ (t : Tally). Decides c.args.need t c.args.line c.args.end c.lines_inside.result) (sym c.in-Stretches.is)
    (decides-inside (2 ^ 64) c.args.need c.in-Stretches.since c.in-Stretches.closed c.args.line c.saturating_sub.result c.lines_inside.result c.args.end
    c.ranges.line.fits (λ k number. let less = c.saturating_sub.ensures in omega (arith, less, number)) c.lines_inside.ensures)

pub returns-in-Windows : goal.returns-in-Windows
returns-in-Windows c =
    subst (λ (t : Tally). Decides c.args.need t c.args.line c.args.end c.windows_of.result) (sym c.in-Windows.is)
    (decides-windows c.args.need c.args.line c.windows_of.result c.args.end c.windows_of.ensures)

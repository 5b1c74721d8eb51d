use Rattle.std.proofs.Common.{arith}
use Rattle.fb_expect.proofs.lemmas.rules.Tallying.{counts-first, counts-same}
use Rattle.fb_expect.proofs.tally.count_event.Goals as goal

pub returns-then-hit : goal.returns-then-hit
returns-then-hit c =
    counts-first c.args.count c.saturating_add.result c.args.line c.args.hit c.if-hit.true
    (λ n number le. let sum = c.saturating_add.ensures in let most = c.ranges.line.fits in omega (arith, sum, most, number, le))

pub returns-else-hit : goal.returns-else-hit
returns-else-hit c = counts-same c.args.count c.args.line c.args.hit c.if-hit.false

use Rattle.std.proofs.Common.{◌^◌}
use Rattle.fb_expect.proofs.lemmas.rules.Tallying.{counts-inside}
use Rattle.fb_expect.proofs.tally.count_stretches.Goals as goal

pub returns : goal.returns
returns c =
    counts-inside (2 ^ 64) c.args.since c.since_after.result c.args.closed c.closed_after.result c.args.line c.args.hit c.ranges.line.fits c.since_after.ensures
    c.closed_after.ensures

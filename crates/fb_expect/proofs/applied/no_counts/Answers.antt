use Rattle.std.proofs.Common.{◌∙◌}
use Rattle.fb_expect.proofs.lemmas.rules.AppliedCounts.{none-yet}
use Rattle.fb_expect.proofs.applied.no_counts.Goals as goal

pub returns : goal.returns
returns c = none-yet c.in_ok-counts.counts.items c.args.rules.now (c.in_ok-counts.ensures.items_if_clones_equal (λ y e. e))

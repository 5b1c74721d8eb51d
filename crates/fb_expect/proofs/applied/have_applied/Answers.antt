use Rattle.std.proofs.Common.{◌∙◌}
use Rattle.fb_expect.proofs.lemmas.rules.AppliedCounts.{some-applied}
use Rattle.fb_expect.proofs.applied.have_applied.Goals as goal

pub returns : goal.returns
returns c = λ rules all is. c.are_some.ensures ∙ some-applied rules all c.args.counts.now is

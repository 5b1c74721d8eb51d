use Rattle.std.proofs.Common.{◌∙◌}
use Rattle.fb_expect.proofs.lemmas.rules.AppliedCounts.{taken}
use Rattle.fb_expect.proofs.applied.count_trace.Goals as goal

pub returns : goal.returns
returns c = λ all room each is.
    taken c.count_all.new.counts _ _ (c.count_all.auto.counts ∙ c.as_mut_slice.ensures.len) ∙ c.count_all.ensures all room each (c.as_mut_slice.ensures.value ∙ is)

use Rattle.fb_check.proofs.lemmas.networks.Counted.{counts_answer}
use Rattle.fb_check.proofs.networks.counts.has_too_many_instances.Goals as goal

pub returns : goal.returns
returns c =
    λ library plan is.
    counts_answer library plan c.args.numbers.now _ _ _ _ _ c.as_slice.ensures c.in_ok-counts.ensures c.deref.ensures.value c.as_slice-2.ensures
    c.count_of-count.ensures is

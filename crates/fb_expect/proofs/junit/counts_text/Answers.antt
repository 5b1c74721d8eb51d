use Rattle.std.proofs.Common.{codes, ◌∙◌}
use Rattle.fb_expect.specs.Suites.{counts_text, with_count}
use Rattle.fb_expect.proofs.lemmas.documents.Suiting.{counted}
use Rattle.fb_expect.proofs.junit.counts_text.Goals as goal

pub returns : goal.returns
unfolding counts_text
returns c =
    counted c.join.result c.as_slice.result.now c.as_slice-2.result.now c.as_slice-3.result.now (with_count (codes "\" tests=\"") c.args.tests)
    (with_count (codes "\" failures=\"") c.args.failed) (with_count (codes "\" errors=\"0\" skipped=\"") c.args.skipped) (codes "\">\n")
    (c.as_slice.ensures.value ∙ c.in_ok-tests.ensures) (c.as_slice-2.ensures.value ∙ c.in_ok-failed.ensures) (c.as_slice-3.ensures.value ∙ c.in_ok-skipped.ensures) c.join.ensures

use Rattle.fb_check.proofs.lemmas.networks.Circles.{high_answer}
use Rattle.fb_check.proofs.lemmas.types.GrowingLists.{if_ok}
use Rattle.fb_check.proofs.networks.heights.too_high_location.Goals as goal

pub returns : goal.returns
returns c =
    if_ok c.too_high_by.result
    (λ o found library plan is.
    high_answer library plan c.args.numbers.now c.as_slice-blocks.result.now _ _ o c.as_slice-blocks.ensures c.in_ok-marks.ensures c.deref.ensures.value found is)
    c.too_high_by.ensures

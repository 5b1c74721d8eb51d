use Rattle.fb_expect.proofs.lemmas.Common.{ap, subst, ◌∙◌, Text}
use Rattle.fb_expect.specs.DifferenceReport.{IsKind, shown_line}
use Rattle.fb_expect.proofs.lemmas.traces.Differing.{shown_difference}
use Rattle.fb_expect.proofs.difference_report.difference_text.Goals as goal

pub returns : goal.returns
returns c =
    let left = c.kind_of-left.result in
    let right = c.kind_of-right.result in
    let a = c.args in
    shown_difference a.first.now a.second.now a.is_without_ticks a.difference.now left right _ _ _ c.join.result
    (subst (λ (z : Text). IsKind z left) c.as_slice-left_line.ensures.value c.kind_of-left.ensures)
    (subst (λ (z : Text). IsKind z right) c.as_slice-right_line.ensures.value c.kind_of-right.ensures)
    (c.as_slice.ensures.value ∙ c.in_ok-line.ensures)
    (c.as_slice-2.ensures.value ∙ c.in_ok-first.ensures ∙ ap (λ (z : Text). shown_line a.first.now z left) c.as_slice-left_line.ensures.value)
    (c.as_slice-3.ensures.value ∙ c.in_ok-second.ensures ∙ ap (λ (z : Text). shown_line a.second.now z right) c.as_slice-right_line.ensures.value) c.join.ensures

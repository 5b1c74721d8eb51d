use mir.Syntax.{w128}
use Rattle.fb_types.proofs.Common.{sym, ap, ◌∙◌, int_le}
use Rattle.std.proofs.lemmas.Int.{to_z-of_z}
use Rattle.fb_expect.specs.Patterns.{compares_whole}
use Rattle.fb_expect.specs.declared.pattern.Comparison.{Comparison}
use Rattle.fb_expect.proofs.meeting.compares_whole.Goals as goal

pub returns-in-AtMost : goal.returns-in-AtMost
returns-in-AtMost c =
    let f = c.args.found in
    let r = c.args.required in
    let found = to_z-of_z w128 f c.ranges.found in
    let required = to_z-of_z w128 r c.ranges.required in
    (λ i. int_le (found i) (required i)) ∙ sym (ap (λ (k : Comparison). compares_whole k f r) c.in-AtMost.is)

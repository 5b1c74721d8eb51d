use Rattle.std.proofs.Common.{sym, ◌∙◌}
use Rattle.fb_expect.proofs.lemmas.patterns.Contradicting.{by-number, by-truth}
use Rattle.fb_expect.proofs.contradiction.has_value.Goals as goal

pub returns-then-has_truth : goal.returns-then-has_truth
returns-then-has_truth c = by-truth c.args.conditions.now c.args.variable.now (sym c.has_truth.ensures ∙ c.if-has_truth.true)

pub returns : goal.returns
returns c =
    by-number c.args.conditions.now c.args.variable.now c.span_of-span.result c.has_number.result (sym c.has_truth.ensures ∙ c.if-has_truth.false) c.span_of-span.ensures.all c.span_of-span.ensures.part
    c.has_number.ensures.some c.has_number.ensures.none

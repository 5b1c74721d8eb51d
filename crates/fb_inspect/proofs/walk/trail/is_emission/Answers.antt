use Rattle.std.proofs.Common.{rules, sym, ◌∙◌}
use Rattle.fb_inspect.proofs.walk.trail.is_emission.Goals as goal

pub returns-clause-same : goal.returns-clause-same
returns-clause-same c = λ t. record {
  taken = c.if-next.false;
  instance = c.if-next-line.false;
  event = c.if-next-event.false;
  key = search rules;
  values = sym c.as_slice.ensures ∙ c.have_same_values.ensures.same t ∙ c.as_slice-2.ensures;
}

pub returns-clause-other : goal.returns-clause-other
returns-clause-other c = λ differ same. c.have_same_values.ensures.other differ (c.as_slice.ensures ∙ same.values ∙ sym c.as_slice-2.ensures)

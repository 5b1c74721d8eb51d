use Rattle.std.proofs.Common.{refl, inl, inr}
use Rattle.fb_why.proofs.marks.range_in.Goals as goal

pub returns-in-Some : goal.returns-in-Some
returns-in-Some c = record {
  marked = c.in-Some.found.marked.now;
  marked_is = inr (c.in-Some.found.operation.now, c.in-Some.ensures.found);
  end_is = c.past.ensures;
}

pub returns-in-None : goal.returns-in-None
returns-in-None c = record {
  marked = c.args.expr.now;
  marked_is = inl (c.in-None.ensures.none, refl, refl);
  end_is = c.past-in-None.ensures;
}

use Rattle.fb_inspect.proofs.lemmas.Common.{List, ℕ, inr, subst, ◌∙◌, both_ways, system_of, IsLast}
use Rattle.fb_inspect.proofs.refused.line_finding.fault_of.Goals as goal

pub returns-then-is_like_end : goal.returns-then-is_like_end
returns-then-is_like_end c = λ names end can e. c.in_default.ensures.none names end can (c.as_slice-text.ensures.value ∙ e)

pub returns-then-can_end : goal.returns-then-can_end
returns-then-can_end c = record {
  inside = c.if-current.false;
  next = inr (record {
    end = c.in-Some.end;
    is = subst (λ (t : List ℕ). IsLast (system_of c.args.system.now) t c.in-Some.end) c.as_slice-text.ensures.value c.in-Some.ensures.last;
    after = c.can_end.ensures.0 c.if-can_end.true;
  });
}

pub returns-else-can_end : goal.returns-else-can_end
returns-else-can_end c =
    let last = subst (λ (t : List ℕ). IsLast (system_of c.args.system.now) t c.in-Some.end) c.as_slice-text.ensures.value c.in-Some.ensures.last in
    (last, λ after. both_ways _ c.if-can_end.false (c.can_end.ensures.1 after))

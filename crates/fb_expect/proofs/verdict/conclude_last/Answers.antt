use Rattle.fb_types.proofs.Common.{ℕ, ◌+◌, ◌<◌, sym, subst, both_ways}
use Rattle.fb_expect.proofs.lemmas.rules.Verdicts.{last-amid, last-none, last-over}
use Rattle.fb_expect.proofs.verdict.conclude_last.Goals as goal

pub returns-then-is_past : goal.returns-then-is_past
returns-then-is_past c =
    last-over c.args.within c.args.last c.args.end c.in-Some.last c.in-Some.is
    (subst (λ (t : ℕ). c.in-Some.last + c.args.within < t) c.tick.ensures (c.is_past.ensures.0 c.if-is_past.true))

pub returns-else-is_past : goal.returns-else-is_past
returns-else-is_past c =
    last-amid c.args.within c.args.last c.args.end c.in-Some.last c.in-Some.is
    (λ over. both_ways c.is_past.result c.if-is_past.false (c.is_past.ensures.1 (subst (λ (t : ℕ). c.in-Some.last + c.args.within < t) (sym c.tick.ensures) over)))

pub returns-in-None : goal.returns-in-None
returns-in-None c = last-none c.args.within c.args.last c.args.end c.in-None.is

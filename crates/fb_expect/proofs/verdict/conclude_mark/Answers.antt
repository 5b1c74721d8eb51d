use Rattle.fb_types.proofs.Common.{ℕ, ◌+◌, ◌<◌, sym, subst, both_ways}
use Rattle.fb_expect.proofs.lemmas.rules.Verdicts.{mark-amid, mark-none, mark-over}
use Rattle.fb_expect.proofs.verdict.conclude_mark.Goals as goal

pub returns-then-is_past : goal.returns-then-is_past
returns-then-is_past c =
    mark-over c.args.within c.args.mark c.args.end c.in-Some.mark c.in-Some.is
    (subst (λ (t : ℕ). c.in-Some.mark.tick + c.args.within < t) c.tick.ensures (c.is_past.ensures.0 c.if-is_past.true))

pub returns-else-is_past : goal.returns-else-is_past
returns-else-is_past c =
    mark-amid c.args.within c.args.mark c.args.end c.in-Some.mark c.in-Some.is
    (λ over. both_ways c.is_past.result c.if-is_past.false (c.is_past.ensures.1 (subst (λ (t : ℕ). c.in-Some.mark.tick + c.args.within < t) (sym c.tick.ensures) over)))

pub returns-in-None : goal.returns-in-None
returns-in-None c = mark-none c.args.within c.args.mark c.args.end c.in-None.is

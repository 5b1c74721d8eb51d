use Rattle.std.proofs.Common.{ℕ, sym, subst}
use Rattle.fb_expect.specs.Judging.{Concludes}
use Rattle.fb_expect.specs.Paired.{PairsEnd}
use Rattle.fb_expect.specs.declared.judging.State.{State}
use Rattle.fb_expect.proofs.lemmas.rules.Following.{concludes-alone, concludes-paired}
use Rattle.fb_expect.proofs.judging.verdict_at.Goals as goal

pub returns-in-Alone : goal.returns-in-Alone
returns-in-Alone c =
    subst (λ (s : State). Concludes c.args.rule.now s c.args.number c.args.end c.verdict_of.result) (sym c.in-Alone.is)
    (concludes-alone c.args.rule.now c.args.number c.args.end c.in-Alone.watch c.verdict_of.result c.verdict_of.ensures)

pub returns-in-Paired : goal.returns-in-Paired
returns-in-Paired c =
    subst (λ (s : State). Concludes c.args.rule.now s c.args.number c.args.end c.conclude.result) (sym c.in-Paired.is)
    (concludes-paired c.args.rule.now c.args.number c.args.end c.in-Paired.pairs c.conclude.result
    (λ p. subst (λ (n : ℕ). PairsEnd n p c.in-Paired.pairs c.args.end c.conclude.result) c.within_of.ensures (c.conclude.ensures p)))

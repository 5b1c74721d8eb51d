use Rattle.fb_read.proofs.lemmas.Common.{◌≡◌, ℕ, ◌+◌, ◌-◌, sym, subst, ◌∙◌, arith, IsDeepLen}
use Rattle.fb_read.proofs.lemmas.texts.RefusalLaws.{deep-shorter, first-deep}
use Rattle.fb_read.proofs.read.deep_len.Goals as goal

pub loop-turn-init : goal.loop-turn-init
loop-turn-init c =
    let same : c.in_ok-most.most ≡ c.in_ok-most.most - 0 = omega arith in
    subst (λ (n : ℕ). IsDeepLen c.args.tokens.now n) same c.in_ok-most.ensures

pub returns-then-not-nests : goal.returns-then-not-nests
returns-then-not-nests c =
    first-deep c.args.tokens.now (c.in_ok-most.most - c.loop-turn.turn) _ c.loop-turn.invariant (rw c.front_of.ensures at c.in_ok-nesting_left.ensures) (sym c.is_some-nests.ensures ∙ c.if-not-nests.true)

pub loop-turn-preserved : goal.loop-turn-preserved
loop-turn-preserved c =
    let fewer : c.in_ok-most.most - c.loop-turn.turn - 1 ≡ c.in_ok-most.most - (c.loop-turn.turn + 1) = omega arith in
    subst (λ (n : ℕ). IsDeepLen c.args.tokens.now n) fewer
    (deep-shorter c.args.tokens.now (c.in_ok-most.most - c.loop-turn.turn) _ c.loop-turn.invariant (rw c.front_of.ensures at c.in_ok-nesting_left.ensures) (sym c.is_some-nests.ensures ∙ c.if-not-nests.false))

pub returns : goal.returns
returns c = absurd (omega (arith, c.loop-turn.invariant.0, c.loop-turn-test.false))

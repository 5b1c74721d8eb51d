use Rattle.std.proofs.Common.{arith, rules}
use Rattle.fb_expect.proofs.lemmas.texts.TextParts.{sign_at, sign_none}
use Rattle.fb_expect.proofs.pattern.at_comparison.Goals as goal

pub returns-then-is_sign : goal.returns-then-is_sign
returns-then-is_sign c = sign_at c.args.word.now c.loop-at.at c.loop-at-test.true c.loop-at.invariant (search rules)

pub returns : goal.returns
returns c = sign_none c.args.word.now (λ k lt. c.loop-at.invariant k (omega arith))

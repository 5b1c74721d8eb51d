use Rattle.std.proofs.Common.{arith, rules}
use Rattle.fb_expect.proofs.lemmas.texts.TextParts.{end_at, end_none}
use Rattle.fb_expect.proofs.words.cut.Goals as goal

pub returns-then-is_end-clause-exact : goal.returns-then-is_end-clause-exact
returns-then-is_end-clause-exact c = end_at c.args.text.now c.loop-at.at (search rules) c.loop-at.invariant (search rules)

pub returns-clause-exact : goal.returns-clause-exact
returns-clause-exact c = end_none c.args.text.now (λ k lt. c.loop-at.invariant k (omega arith))

use Rattle.std.proofs.Common.{arith, rules}
use Rattle.fb_inputs.proofs.lemmas.stimuli.TextParts.{parted_at, parted_none}
use Rattle.fb_inputs.proofs.text.parted.Goals as goal

pub returns-then-text-at : goal.returns-then-text-at
returns-then-text-at c = parted_at c.args.mark c.args.text.now c.loop-at.at c.loop-at-test.true c.loop-at.invariant (search rules)

pub returns : goal.returns
returns c = parted_none c.args.mark c.args.text.now (λ k lt. c.loop-at.invariant k (omega arith))

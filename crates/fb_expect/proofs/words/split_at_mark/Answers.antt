use Rattle.std.proofs.Common.{arith, rules}
use Rattle.fb_expect.proofs.lemmas.texts.TextParts.{parted_at, parted_none}
use Rattle.fb_expect.proofs.words.split_at_mark.Goals as goal

pub returns-then-byte-mark : goal.returns-then-byte-mark
returns-then-byte-mark c = parted_at c.args.mark c.args.text.now c.loop-at.at (search rules) c.loop-at.invariant (search rules)

pub returns : goal.returns
returns c = parted_none c.args.mark c.args.text.now (λ k lt. c.loop-at.invariant k (omega arith))

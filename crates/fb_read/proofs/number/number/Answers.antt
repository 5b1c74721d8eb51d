use Rattle.fb_types.proofs.Common.{arith, common_steps}
use Rattle.fb_read.proofs.lemmas.tokens.NumberLaws.{too_large}
use Rattle.fb_read.proofs.number.number.Goals as goal

pub returns-in_default-clause-value : goal.returns-in_default-clause-value
returns-in_default-clause-value c =
    too_large c.args.base c.args.digits.now c.loop-b.b-index c.loop-b.value c.requires.low c.loop-b-test.true (grind (arith, common_steps)) c.loop-b.invariant.sum (grind (arith, common_steps, c.in_default.ensures))

pub loop-b-preserved : goal.loop-b-preserved
loop-b-preserved c = grind (arith, common_steps)

pub loop-b-preserved-then-not-expected : goal.loop-b-preserved-then-not-expected
loop-b-preserved-then-not-expected c = grind (arith, common_steps)

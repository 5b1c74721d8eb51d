use Rattle.std.proofs.Common.{arith}
use Rattle.fb_wave.proofs.lemmas.Spelled.{Spells-none, Spells-more, Spells-all}
use Rattle.fb_wave.proofs.digits.write_digits.Goals as goal

pub loop-start-init : goal.loop-start-init
loop-start-init c = Spells-none c.args.base c.args.number c.args.indexes.now (omega (arith, c.told-indexes))

pub loop-start-preserved : goal.loop-start-preserved
loop-start-preserved c =
    Spells-more c.args.base c.args.number _ _ _ c.requires.low c.requires.high c.loop-start.invariant c.loop-start-test.true c.if-rest-eq0.false

pub returns-then-rest-eq0-clause-written : goal.returns-then-rest-eq0-clause-written
returns-then-rest-eq0-clause-written c =
    Spells-all c.args.base c.args.number _ _ _ c.requires.low c.requires.high c.loop-start.invariant c.loop-start-test.true c.if-rest-eq0.true

use Rattle.std.proofs.Common.{arith}
use Rattle.fb_trace.proofs.lemmas.digits.Digits.{Follow-none, Follow-room, Follow-more, Follow-all}
use Rattle.fb_trace.proofs.number.write_digits.Goals as goal

pub loop-high-init : goal.loop-high-init
loop-high-init c = Follow-none c.args.number c.args.digits.now (omega arith)

pub overflow_sub-start : goal.overflow_sub-start
overflow_sub-start c = Follow-room _ _ _ _ c.loop-high.invariant c.ranges.number.fits c.loop-high.auto.high-fits.fits

pub loop-high-preserved : goal.loop-high-preserved
loop-high-preserved c =
    Follow-more _ _ _ _ c.loop-high.invariant c.ranges.number.fits c.loop-high.auto.high-fits.fits (omega arith)

pub overflow_sub-start-in-loop-low : goal.overflow_sub-start-in-loop-low
overflow_sub-start-in-loop-low c = Follow-room _ _ _ _ c.loop-low.invariant c.ranges.number.fits (omega arith)

pub loop-low-preserved : goal.loop-low-preserved
loop-low-preserved c = Follow-more _ _ _ _ c.loop-low.invariant c.ranges.number.fits (omega arith) (omega arith)

pub overflow_sub-start-2 : goal.overflow_sub-start-2
overflow_sub-start-2 c = Follow-room _ _ _ _ c.loop-low.invariant c.ranges.number.fits (omega arith)

pub returns-clause-written : goal.returns-clause-written
returns-clause-written c = Follow-all _ _ _ _ c.loop-low.invariant c.ranges.number.fits (omega arith)

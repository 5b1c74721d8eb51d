use Rattle.fb_trace.proofs.lemmas.digits.Digits.{Follow}
use Rattle.fb_trace.proofs.number.write_digits.Given as goal

abbrev pub invariant-loop-high : goal.invariant-loop-high
invariant-loop-high l = Follow l.number l.high l.start l.digits

abbrev pub decreases-loop-high : goal.decreases-loop-high
decreases-loop-high l = l.high

abbrev pub invariant-loop-low : goal.invariant-loop-low
invariant-loop-low l = Follow l.number l.low l.start l.digits

abbrev pub decreases-loop-low : goal.decreases-loop-low
decreases-loop-low l = l.low

use Rattle.fbsim_session.specs.Talks.{IsBegun}
use Rattle.fbsim_session.proofs.answer.put_line.Given as goal

abbrev pub invariant-loop-byte : goal.invariant-loop-byte
invariant-loop-byte l = IsBegun l.line.items

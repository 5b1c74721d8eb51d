use Rattle.fbsim_session.specs.Talks.{HasTold, Opening, spoken}
use Rattle.fbsim_session.proofs.talking.Console.help.Given as goal

abbrev pub invariant-loop-line : goal.invariant-loop-line
invariant-loop-line g l = (x : Opening) → HasTold x (g.W.Write.contents l.fn.out) (spoken l.fn.self) → HasTold x (g.W.Write.contents l.out) (spoken l.self)

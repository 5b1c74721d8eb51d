use Rattle.fbsim_session.specs.Talks.{HasTold, Opening, spoken}
use Rattle.fbsim_session.proofs.talking.Console.answer_all.Given as goal

abbrev pub invariant-loop : goal.invariant-loop
invariant-loop g l = (x : Opening) → HasTold x (g.W.Write.contents l.fn.out) (spoken l.fn.self) → HasTold x (g.W.Write.contents l.out) (spoken l.self)

use Rattle.fbsim_session.specs.Talks.{HasTold, Opening, spoken}
use Rattle.fbsim_session.proofs.talking.Console.list_rows.Given as goal

abbrev pub invariant-loop-row : goal.invariant-loop-row
invariant-loop-row g l = (x : Opening) → HasTold x (g.W.Write.contents l.fn.out) (spoken l.fn.self) → HasTold x (g.W.Write.contents l.out) (spoken l.self)

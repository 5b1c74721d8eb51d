use Rattle.std.proofs.Common.{subst, sym}
use Rattle.fb_session.specs.Pasts.{IsAlive}
use Rattle.fbsim_session.proofs.lemmas.Telling.{ended_by_stop}
use Rattle.fbsim_session.proofs.talking.Console.finish.Goals as goal

pub returns-in-Stopped : goal.returns-in-Stopped
returns-in-Stopped g c = λ x h. ended_by_stop x _ _ h _ (sym c.in-Stopped.ensures)

pub unreachable-requires : goal.unreachable-requires
unreachable-requires g c = subst IsAlive (sym c.in-Failed.ensures) c.requires.told.1.alive

pub returns-in-Running : goal.returns-in-Running
returns-in-Running g c = c.write_rest.ensures

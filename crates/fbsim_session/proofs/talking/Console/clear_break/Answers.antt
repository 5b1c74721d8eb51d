use Rattle.std.proofs.Common.{refl, sym, subst}
use Rattle.fbsim_session.specs.Talks.{Spoken, Stays, spoken}
use Rattle.fbsim_session.proofs.lemmas.Telling.{stays_as, stays_broken}
use Rattle.fbsim_session.proofs.talking.Console.clear_break.Goals as goal

pub returns-in-Stopped : goal.returns-in-Stopped
returns-in-Stopped c = stays_as _ _ c.error.ensures

pub returns : goal.returns
returns c =
    subst (λ (t : Spoken). Stays (spoken c.args.self.now) t) (sym c.say_cleared.ensures)
    (stays_broken _ _ c.clear_break-is_found.ensures.only refl)

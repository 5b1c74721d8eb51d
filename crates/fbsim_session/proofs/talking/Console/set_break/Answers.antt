use Rattle.std.proofs.Common.{refl, sym, subst}
use Rattle.fbsim_session.specs.Talks.{Spoken, Stays, spoken}
use Rattle.fbsim_session.proofs.lemmas.Telling.{stays_broken}
use Rattle.fbsim_session.proofs.talking.Console.set_break.Goals as goal

pub returns : goal.returns
returns c =
    subst (λ (t : Spoken). Stays (spoken c.args.self.now) t) (sym c.say_set.ensures)
    (stays_broken _ _ c.set_break-set.ensures.only refl)

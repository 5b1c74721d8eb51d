use Rattle.std.proofs.Common.{refl, sym, subst}
use Rattle.fbsim_session.specs.Talks.{Spoken, Stays, spoken}
use Rattle.fbsim_session.proofs.lemmas.Telling.{stays_given}
use Rattle.fbsim_session.proofs.talking.Console.give.Goals as goal

pub returns : goal.returns
returns c =
    subst (λ (t : Spoken). Stays (spoken c.args.self.now) t) (sym c.say_given.ensures)
    (stays_given _ _ _ _ _ c.give-given.result c.give-given.ensures refl)

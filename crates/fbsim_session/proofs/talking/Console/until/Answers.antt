use Rattle.std.proofs.Common.{refl, sym}
use Rattle.fbsim_session.proofs.lemmas.Telling.{failed, gone_until, leads_lost, same}
use Rattle.fbsim_session.proofs.talking.Console.until.Goals as goal

pub until-requires-clause-stands : goal.until-requires-clause-stands
until-requires-clause-stands g c = let h = c.requires.told.1 in (h.past, h.stands)

pub returns-in_err-error : goal.returns-in_err-error
returns-in_err-error g c = λ x h. leads_lost x _ _ h _ c.from_residual.result c.from_residual.ensures.1

pub returns-in_default : goal.returns-in_default
returns-in_default g c = λ x h. same x _ _ h _ c.error.ensures

pub returns-in_err-say_until-in-Ok : goal.returns-in_err-say_until-in-Ok
returns-in_err-say_until-in-Ok g c = λ x h. leads_lost x _ _ (gone_until x _ _ h (sym c.in-Running.ensures) _ _ _ _ c.in-Ok.ensures) _ c.from_residual-in_err-say_until-in-Ok.result c.from_residual-in_err-say_until-in-Ok.ensures.1

pub returns-in_ok-say_until-in-Ok : goal.returns-in_ok-say_until-in-Ok
returns-in_ok-say_until-in-Ok g c = λ x h. same x _ _ (gone_until x _ _ h (sym c.in-Running.ensures) _ _ _ _ c.in-Ok.ensures) _ c.say_until.ensures

pub returns-in-Err : goal.returns-in-Err
returns-in-Err g c = λ x h. failed x _ _ h (sym c.in-Running.ensures) (record { session = c.until.new.self; answered = c.args.self.now.answered }) _ _ _ c.in-Err.ensures refl c.failed.ensures

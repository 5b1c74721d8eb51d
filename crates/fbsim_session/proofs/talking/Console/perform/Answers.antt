use Rattle.fbsim_session.proofs.lemmas.Telling.{leads_lost, stayed}
use Rattle.fbsim_session.proofs.talking.Console.perform.Goals as goal

pub reply_to-requires : goal.reply_to-requires
reply_to-requires g c = let h = c.requires.told.1 in (h.past, h.stands)

pub returns-in_err-reply-in_default : goal.returns-in_err-reply-in_default
returns-in_err-reply-in_default g c = λ x h. leads_lost x _ _ h _ c.from_residual.result c.from_residual.ensures.1

pub returns-in_ok-reply-in_default : goal.returns-in_ok-reply-in_default
returns-in_ok-reply-in_default g c = λ x h. stayed x _ _ h _ c.reply_to.ensures

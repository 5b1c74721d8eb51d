use Rattle.fbsim_session.proofs.lemmas.Telling.{arrives_passed}
use Rattle.fbsim_session.proofs.talking.Console.obey.Goals as goal

pub returns-in-End : goal.returns-in-End
returns-in-End g c = c.end.ensures

pub returns-in_err-reply-in_default : goal.returns-in_err-reply-in_default
returns-in_err-reply-in_default g c = λ x h.
    arrives_passed x _ _ c.in_err-reply-in_default.field-0.0 c.from_residual.result c.from_residual.ensures.1 (c.in_err-reply-in_default.ensures x h)

pub returns-in_err-answer-in_default : goal.returns-in_err-answer-in_default
returns-in_err-answer-in_default g c = λ x h.
    arrives_passed x _ _ c.in_err-answer-in_default.field-0.0 c.from_residual-in_err-answer-in_default.result c.from_residual-in_err-answer-in_default.ensures.1
    (c.in_err-answer-in_default.ensures x (c.in_ok-reply-in_default.ensures x h))

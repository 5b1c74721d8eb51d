use Rattle.fbsim_session.proofs.lemmas.Pieces.{begun}
use Rattle.fbsim_session.proofs.answer.begin_line.Goals as goal

pub returns : goal.returns
returns c = begun _ c.letter.ensures _ _ _ c.clear.ensures.items c.in_ok-push.ensures.items c.in_ok-push-2.ensures.items

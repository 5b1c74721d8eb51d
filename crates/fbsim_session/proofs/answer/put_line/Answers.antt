use Rattle.fbsim_session.proofs.lemmas.Pieces.{answer_of}
use Rattle.fbsim_session.proofs.answer.put_line.Goals as goal

pub returns : goal.returns
returns c = answer_of _ _ c.loop-byte.invariant c.in_ok-push.ensures.items

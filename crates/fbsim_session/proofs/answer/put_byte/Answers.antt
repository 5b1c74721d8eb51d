use Rattle.fbsim_session.proofs.lemmas.Pieces.{begun_more}
use Rattle.fbsim_session.proofs.answer.put_byte.Goals as goal

pub returns : goal.returns
returns c = begun_more _ _ _ c.requires c.in_line.ensures c.in_ok-push.ensures.items

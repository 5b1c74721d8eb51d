use Rattle.fb_session.proofs.lemmas.EndingIs as laws
use Rattle.fb_session.proofs.laws.told_is_front.Goals as goal

pub returns : goal.returns
returns c = laws.told_is_front

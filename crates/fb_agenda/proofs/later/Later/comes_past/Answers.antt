use Rattle.fb_agenda.proofs.lemmas.Common.{subst, OnTrue, Pending, IsPast}
use Rattle.fb_agenda.proofs.lemmas.NothingWaits.{past_none}
use Rattle.fb_agenda.proofs.later.Later.comes_past.Goals as goal

pub returns-in_default-clause-past : goal.returns-in_default-clause-past
returns-in_default-clause-past c = past_none c.args.moment c.args.self.now.events c.in_default.ensures.none

pub returns-clause-past : goal.returns-clause-past
returns-clause-past c = subst (λ (l : Pending). OnTrue c.is_past.result (IsPast c.args.moment l.events)) c.note_first.ensures c.is_past.ensures

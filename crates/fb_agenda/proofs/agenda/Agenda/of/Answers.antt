use Rattle.fb_agenda.proofs.lemmas.Common.{ap, local_events}
use Rattle.fb_agenda.proofs.lemmas.QueueAndOthers.{apart_none}
use Rattle.fb_agenda.proofs.agenda.Agenda.of.Goals as goal

pub invariant_of-result : goal.invariant_of-result
invariant_of-result c = apart_none (local_events c.new-2.result) c.new.result.events c.new.result.due (ap local_events c.new-2.ensures)

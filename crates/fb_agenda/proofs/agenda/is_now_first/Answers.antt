use Rattle.fb_agenda.specs.Agendas.{local_events}
use Rattle.fb_agenda.proofs.lemmas.Lists.{false_weaker, leads_none, leads_past, true_weaker}
use Rattle.fb_agenda.proofs.agenda.is_now_first.Goals as goal

pub returns-in_default-clause-later : goal.returns-in_default-clause-later
returns-in_default-clause-later c = leads_none c.args.later.now.events (local_events c.args.now.now) c.in_default.ensures.none

pub returns-then-is_past-clause-running : goal.returns-then-is_past-clause-running
returns-then-is_past-clause-running c =
    let at = c.in-Some.ensures.some in
    leads_past (local_events c.args.now.now) c.args.later.now.events at.key c.in-Some.moment at.tick at.resource at.first c.if-is_past.ensures

pub returns-in-Some-first-clause-running : goal.returns-in-Some-first-clause-running
returns-in-Some-first-clause-running c = true_weaker c.comes_after.result c.comes_after.ensures.after (λ leads. leads (local_events c.args.now.now) c.in-Some-first.ensures.some)

pub returns-in-Some-first-clause-later : goal.returns-in-Some-first-clause-later
returns-in-Some-first-clause-later c = false_weaker c.comes_after.result c.comes_after.ensures.before (λ leads. leads (local_events c.args.now.now) c.in-Some-first.ensures.some)

pub returns-in-None-clause-later : goal.returns-in-None-clause-later
returns-in-None-clause-later c = leads_none c.args.later.now.events (local_events c.args.now.now) c.in-None.ensures.none

use Rattle.fb_agenda.proofs.lemmas.Common.{subst, sym, contents_of}
use Rattle.fb_agenda.specs.Agendas.{IsNext}
use Rattle.fb_agenda.proofs.lemmas.QueueAndOthers.{next_first, next_of_both}
use Rattle.fb_agenda.proofs.lemmas.Lists.{few_is_first, leads_none, many_is_first}
use Rattle.fb_agenda.proofs.agenda.Agenda.next.Goals as goal

-- ---- Of the others alone

pub returns-in_default-clause-some : goal.returns-in_default-clause-some
returns-in_default-clause-some c =
    let v = contents_of c.self.inside in
    rw (← c.self.view_is) (next_first v c.in_ok-later.later (many_is_first v.running v.later (leads_none v.later v.running c.in_default.ensures.none) c.in_ok-later.later c.in_ok-later.ensures.some))

-- ---- Of the queue alone

pub returns-in_default-first-clause-some : goal.returns-in_default-first-clause-some
returns-in_default-first-clause-some c =
    let v = contents_of c.self.inside in
    rw (← c.self.view_is) (next_first v c.in-Some.first (few_is_first v.running v.later (leads_none v.running v.later c.in_default-first.ensures.none) c.in-Some.first c.in-Some.ensures.some))

-- ---- Of both

pub returns-clause-some : goal.returns-clause-some
returns-clause-some c =
    let v = contents_of c.self.inside in
    rw (← c.self.view_is) (subst (IsNext v) (sym c.min.ensures) (next_of_both v c.in-Some.first c.in-Some-first.later c.in-Some.ensures.some c.in-Some-first.ensures.some))

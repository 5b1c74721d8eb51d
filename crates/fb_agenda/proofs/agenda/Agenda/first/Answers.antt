use Rattle.fb_agenda.proofs.lemmas.Common.{sym, ◌∙◌, contents_of}
use Rattle.fb_agenda.proofs.lemmas.QueueAndOthers.{later_least, running_least}
use Rattle.fb_agenda.proofs.lemmas.Orders.{less_is}
use Rattle.fb_agenda.proofs.agenda.Agenda.first.Goals as goal

pub returns-then-lt-clause-some : goal.returns-then-lt-clause-some
returns-then-lt-clause-some c =
    let first = c.in-Some.first in
    let later = c.in-Some-first.later in
    rw (← c.self.view_is)
    (later_least (contents_of c.self.inside) first later c.in-Some.ensures.some c.in-Some-first.ensures.some (sym (c.lt.ensures ∙ less_is later first) ∙ c.if-lt.true))

pub returns-else-lt-clause-some : goal.returns-else-lt-clause-some
returns-else-lt-clause-some c =
    let first = c.in-Some.first in
    let later = c.in-Some-first.later in
    rw (← c.self.view_is)
    (running_least (contents_of c.self.inside) first later c.in-Some.ensures.some c.in-Some-first.ensures.some (sym (c.lt.ensures ∙ less_is later first) ∙ c.if-lt.false))

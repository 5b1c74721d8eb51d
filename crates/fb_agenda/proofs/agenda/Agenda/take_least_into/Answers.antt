use Rattle.fb_agenda.proofs.lemmas.Common.{◌≡◌, ◌++◌, sym, ap, subst, ◌∙◌, IfNone, AreApart, Contents, local_events, contents_of, Pending, BeginsAt, IsPopped}
use Rattle.fb_agenda.specs.LeastEvents.{taken}
use Rattle.fb_agenda.proofs.lemmas.QueueAndOthers.{contents, later_popped, queue_popped, split_of, taken_below, taken_found, taken_kept, taken_least, taken_left, taken_none}
use Rattle.fb_agenda.proofs.lemmas.Lists.{begins_few, begins_many, none_weaker, popped_few, popped_many}
use Rattle.fb_agenda.proofs.agenda.Agenda.take_least_into.Goals as goal

pub is_now_first-requires : goal.is_now_first-requires
is_now_first-requires c = c.self.invariant.queue.rising

pub pop_into-requires : goal.pop_into-requires
pop_into-requires c = c.self.invariant.queue.rising

-- ---- The first of the queue comes first

pub invariant_of-self : goal.invariant_of-self
invariant_of-self c =
    let pop = c.pop_into in
    let rest = local_events pop.new.self in
    subst (λ (l : Pending). AreApart (contents rest l)) (sym c.is_now_first.ensures.kept)
    (queue_popped (contents_of c.self.inside) c.self.invariant rest (taken pop.result pop.new.least_event) pop.ensures.rising pop.ensures.popped)

pub returns-then-is_now_first-clause-found : goal.returns-then-is_now_first-clause-found
returns-then-is_now_first-clause-found c =
    let v = contents_of c.self.inside in
    let pop = c.pop_into in
    let rest = local_events pop.new.self in
    rw (← c.self.view_is)
    (taken_found v (record v { running = rest }) pop.result pop.new.least_event
    (popped_few v.running v.later (split_of v c.self.invariant) c.if-is_now_first.ensures.running rest (taken pop.result pop.new.least_event) pop.ensures.popped))

pub returns-then-is_now_first-clause-below : goal.returns-then-is_now_first-clause-below
returns-then-is_now_first-clause-below c = taken_below c.args.horizon c.pop_into.result c.pop_into.new.least_event c.pop_into.ensures.below

pub returns-then-is_now_first-clause-least : goal.returns-then-is_now_first-clause-least
returns-then-is_now_first-clause-least c =
    let v = contents_of c.self.inside in
    let pop = c.pop_into in
    let rest = local_events pop.new.self in
    rw (← c.self.view_is)
    (taken_least v (record v { running = rest }) pop.result pop.new.least_event
    (popped_few v.running v.later (split_of v c.self.invariant) c.if-is_now_first.ensures.running rest (taken pop.result pop.new.least_event) pop.ensures.popped))

pub returns-then-is_now_first-clause-left : goal.returns-then-is_now_first-clause-left
returns-then-is_now_first-clause-left c =
    let v = contents_of c.self.inside in
    let pop = c.pop_into in
    let rest = local_events pop.new.self in
    let o = taken pop.result pop.new.least_event in
    rw (← c.self.view_is)
    (taken_left v (contents rest c.is_now_first.new.later) pop.result pop.new.least_event
    (subst (λ (l : Pending). IsPopped (v.running ++ v.later) (rest ++ l.events) o) (sym c.is_now_first.ensures.kept)
    (popped_few v.running v.later (split_of v c.self.invariant) c.if-is_now_first.ensures.running rest o pop.ensures.popped)))

pub returns-then-is_now_first-clause-none : goal.returns-then-is_now_first-clause-none
returns-then-is_now_first-clause-none c =
    let v = contents_of c.self.inside in
    let pop = c.pop_into in
    rw (← c.self.view_is)
    (taken_none v c.args.horizon pop.result pop.new.least_event
    (begins_few v.running v.later c.if-is_now_first.ensures.running c.args.horizon (taken pop.result pop.new.least_event) pop.ensures.none))

pub returns-then-is_now_first-clause-kept : goal.returns-then-is_now_first-clause-kept
returns-then-is_now_first-clause-kept c =
    let v = contents_of c.self.inside in
    let pop = c.pop_into in
    let popped = pop.ensures.popped in
    let rest = local_events pop.new.self in
    let new : Contents = contents rest c.is_now_first.new.later in
    rw (← c.self.view_is)
    (taken_kept (new ≡ v) pop.result pop.new.least_event
    (none_weaker (taken pop.result pop.new.least_event) popped.kept
    (λ same. ap (λ (l : Pending). contents rest l) c.is_now_first.ensures.kept ∙ ap (λ es. record v { running = es }) same)))

-- ---- Another event comes first

pub invariant_of-self-else-is_now_first : goal.invariant_of-self-else-is_now_first
invariant_of-self-else-is_now_first c =
    let v = contents_of c.self.inside in
    let pop = c.pop_into-else-is_now_first in
    let o = taken pop.result pop.new.least_event in
    later_popped v c.self.invariant pop.new.self.events pop.new.self.due o
    (subst (λ (l : Pending). IsPopped l.events pop.new.self.events o) c.is_now_first.ensures.kept pop.ensures.popped)

pub returns-else-is_now_first-clause-found : goal.returns-else-is_now_first-clause-found
returns-else-is_now_first-clause-found c =
    let v = contents_of c.self.inside in
    let pop = c.pop_into-else-is_now_first in
    let new = pop.new.self in
    let o = taken pop.result pop.new.least_event in
    rw (← c.self.view_is)
    (taken_found v (contents v.running new) pop.result pop.new.least_event
    (popped_many v.running v.later (split_of v c.self.invariant) c.if-is_now_first.ensures.later new.events o
    (subst (λ (l : Pending). IsPopped l.events new.events o) c.is_now_first.ensures.kept pop.ensures.popped)))

pub returns-else-is_now_first-clause-below : goal.returns-else-is_now_first-clause-below
returns-else-is_now_first-clause-below c =
    let pop = c.pop_into-else-is_now_first in
    taken_below c.args.horizon pop.result pop.new.least_event pop.ensures.below

pub returns-else-is_now_first-clause-least : goal.returns-else-is_now_first-clause-least
returns-else-is_now_first-clause-least c =
    let v = contents_of c.self.inside in
    let pop = c.pop_into-else-is_now_first in
    let new = pop.new.self in
    let o = taken pop.result pop.new.least_event in
    rw (← c.self.view_is)
    (taken_least v (contents v.running new) pop.result pop.new.least_event
    (popped_many v.running v.later (split_of v c.self.invariant) c.if-is_now_first.ensures.later new.events o
    (subst (λ (l : Pending). IsPopped l.events new.events o) c.is_now_first.ensures.kept pop.ensures.popped)))

pub returns-else-is_now_first-clause-left : goal.returns-else-is_now_first-clause-left
returns-else-is_now_first-clause-left c =
    let v = contents_of c.self.inside in
    let pop = c.pop_into-else-is_now_first in
    let new = pop.new.self in
    let o = taken pop.result pop.new.least_event in
    rw (← c.self.view_is)
    (taken_left v (contents v.running new) pop.result pop.new.least_event
    (popped_many v.running v.later (split_of v c.self.invariant) c.if-is_now_first.ensures.later new.events o
    (subst (λ (l : Pending). IsPopped l.events new.events o) c.is_now_first.ensures.kept pop.ensures.popped)))

pub returns-else-is_now_first-clause-none : goal.returns-else-is_now_first-clause-none
returns-else-is_now_first-clause-none c =
    let v = contents_of c.self.inside in
    let pop = c.pop_into-else-is_now_first in
    let o = taken pop.result pop.new.least_event in
    rw (← c.self.view_is)
    (taken_none v c.args.horizon pop.result pop.new.least_event
    (begins_many v.running v.later c.if-is_now_first.ensures.later c.args.horizon o
    (subst (λ (l : Pending). IfNone o (BeginsAt c.args.horizon l.events)) c.is_now_first.ensures.kept pop.ensures.none)))

pub returns-else-is_now_first-clause-kept : goal.returns-else-is_now_first-clause-kept
returns-else-is_now_first-clause-kept c =
    let v = contents_of c.self.inside in
    let pop = c.pop_into-else-is_now_first in
    let new = pop.new.self in
    let popped = pop.ensures.popped in
    rw (← c.self.view_is)
    (taken_kept (contents v.running new ≡ v) pop.result pop.new.least_event
    (none_weaker (taken pop.result pop.new.least_event) popped.kept
    (λ same. ap (λ es. record v { later = es; due = new.due }) (same ∙ ap (λ (l : Pending). l.events) c.is_now_first.ensures.kept)
    ∙ ap (λ due. record v { due = due }) (pop.ensures.due ∙ ap (λ (l : Pending). l.due) c.is_now_first.ensures.kept))))

use Rattle.fb_agenda.proofs.lemmas.Common.{Some, ◌∙◌, arith, local_events}
use Rattle.fb_agenda.proofs.lemmas.Lists.{below_first}
use Rattle.fb_agenda.proofs.lemmas.Queueing.{number_popped, number_rises}
use Rattle.fb_agenda.proofs.queue.Queue.pop_into.Goals as goal

pub returns-clause-popped : goal.returns-clause-popped
returns-clause-popped c =
    let q = c.self.inside in
    let least_event = c.hold_local.new.self in
    number_popped q.tick q.resource q.waiting.items c.pop_front.new.self.items c.in-Some-pop_front.waiting c.args.self.now least_event.key least_event.event c.self.view_is c.requires
    c.in-Some-pop_front.ensures.items (c.hold_local.ensures.key ∙ c.local.ensures) c.hold_local.ensures.event

pub returns-clause-rising : goal.returns-clause-rising
returns-clause-rising c =
    let q = c.self.inside in
    let least_event = c.hold_local.new.self in
    number_rises q.tick q.resource q.waiting.items c.pop_front.new.self.items c.in-Some-pop_front.waiting c.args.self.now least_event.key least_event.event c.self.view_is c.requires
    c.in-Some-pop_front.ensures.items (c.hold_local.ensures.key ∙ c.local.ensures) c.hold_local.ensures.event

pub returns-clause-below : goal.returns-clause-below
returns-clause-below c =
    let q = c.self.inside in
    let least_event = c.hold_local.new.self in
    below_first (local_events c.args.self.now) _ c.in-Some.first c.args.horizon c.in-Some.ensures.some (omega (arith, c.if-first-horizon.false)) (Some (least_event.key, least_event.event))
    (number_popped q.tick q.resource q.waiting.items c.pop_front.new.self.items c.in-Some-pop_front.waiting c.args.self.now least_event.key least_event.event c.self.view_is c.requires
    c.in-Some-pop_front.ensures.items (c.hold_local.ensures.key ∙ c.local.ensures) c.hold_local.ensures.event)

use Rattle.fb_agenda.proofs.lemmas.Common.{◌<◌, length, sym, subst, arith, timer_key, Timer, Contents, local_events}
use Rattle.fb_agenda.proofs.lemmas.QueueAndOthers.{put_later_apart, put_later_waits}
use Rattle.fb_agenda.proofs.agenda.Agenda.start_timer.Goals as goal

pub set_timer-requires : goal.set_timer-requires
set_timer-requires c = subst (λ (x : Contents). c.args.instance < length x.due) (sym c.self.view_is) c.requires

pub invariant_of-self : goal.invariant_of-self
invariant_of-self c =
    let i = c.self.inside in
    let key = timer_key c.args.tick c.args.resource c.args.instance in
    put_later_apart (local_events i.now) i.later c.set_timer.new.self c.self.invariant key (Timer c.args.instance) (c.self.invariant.queue.local key (λ h. omega arith)) c.set_timer.result c.set_timer.ensures.put c.set_timer.ensures.err

pub returns-clause-put : goal.returns-clause-put
returns-clause-put c =
    let i = c.self.inside in
    let key = timer_key c.args.tick c.args.resource c.args.instance in
    rw (← c.self.view_is)
    (put_later_waits (local_events i.now) i.later c.set_timer.new.self c.self.invariant key (Timer c.args.instance) (c.self.invariant.queue.local key (λ h. omega arith)) c.set_timer.result c.set_timer.ensures.put)

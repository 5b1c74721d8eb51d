use Rattle.fb_types.proofs.Common.{◌<◌, ◌∙◌, length, None, refl, sym, subst, arith, inl, slice_index, timer_key}
use Rattle.fb_agenda.specs.Agendas.{Contents, IsTimed}
use Rattle.fb_agenda.specs.Inside.{contents_of}
use Rattle.fb_agenda.proofs.lemmas.QueueAndOthers.{later_apart, later_waits}
use Rattle.fb_agenda.proofs.lemmas.Timers.{cleared}
use Rattle.fb_agenda.proofs.agenda.Agenda.clear_timer.Goals as goal

pub clear_timer-requires : goal.clear_timer-requires
clear_timer-requires c = subst (λ (x : Contents). c.args.instance < length x.due) (sym c.self.view_is) c.requires.instance

pub invariant_of-self : goal.invariant_of-self
invariant_of-self c =
    let v = contents_of c.self.inside in
    let new = c.clear_timer.new.self in
    later_apart v c.self.invariant (timer_key (slice_index v.due c.args.instance) c.args.resource c.args.instance) None new.events c.clear_timer.ensures.gone new.due (inl refl)

pub returns-clause-cleared : goal.returns-clause-cleared
returns-clause-cleared c =
    let v = contents_of c.self.inside in
    let new = c.clear_timer.new.self in
    let due = slice_index v.due c.args.instance in
    let key = timer_key due c.args.resource c.args.instance in
    let timed : IsTimed v = subst (λ (x : Contents). IsTimed x) (sym c.self.view_is) c.requires.timed in
    rw (← c.self.view_is)
    (λ j. later_waits v c.self.invariant key None new.events c.clear_timer.ensures.gone new.due (c.self.invariant.queue.local key (λ h. omega arith)) j
    ∙ cleared v c.args.resource c.args.instance due refl timed j)

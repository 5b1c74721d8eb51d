use Rattle.fb_agenda.proofs.lemmas.Common.{◌<◌, length, sym, subst, Contents, contents_of}
use Rattle.fb_agenda.specs.Agendas.{IsTimed}
use Rattle.fb_agenda.proofs.lemmas.Timers.{timer_none, timer_some}
use Rattle.fb_agenda.proofs.agenda.Agenda.timer.Goals as goal

pub timer-requires : goal.timer-requires
timer-requires c = subst (λ (x : Contents). c.args.instance < length x.due) (sym c.self.view_is) c.requires.instance

pub returns-clause-some : goal.returns-clause-some
returns-clause-some c = rw (← c.self.view_is) (timer_some (contents_of c.self.inside) c.args.resource c.args.instance c.timer.result c.timer.ensures.some)

pub returns-clause-none : goal.returns-clause-none
returns-clause-none c =
    let v = contents_of c.self.inside in
    let timed : IsTimed v = subst (λ (x : Contents). IsTimed x) (sym c.self.view_is) c.requires.timed in
    rw (← c.self.view_is) (timer_none v c.args.resource c.args.instance c.self.invariant.queue timed c.timer.result c.timer.ensures.none)

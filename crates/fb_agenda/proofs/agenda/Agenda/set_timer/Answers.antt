use Rattle.fb_types.proofs.Common.{◌∙◌, Some, cond, ap, on_ok_weaker, same_key, timer_key, is_timer_of}
use Rattle.fb_types.specs.declared.run.Event.TheVariants.{Timer}
use Rattle.fb_agenda.specs.Agendas.{waiting}
use Rattle.fb_agenda.proofs.lemmas.Timers.{changed_is, on_ok_both, timed_after, timed_without}
use Rattle.fb_agenda.proofs.agenda.Agenda.set_timer.Goals as goal

pub returns-in-Clear-clause-timed : goal.returns-in-Clear-clause-timed
returns-in-Clear-clause-timed c =
    timed_without c.args.self.now c.clear_timer.new.self c.args.resource c.args.instance c.requires.timed c.clear_timer.ensures.cleared c.clear_timer.ensures.due

pub returns-in-At-clause-changed : goal.returns-in-At-clause-changed
returns-in-At-clause-changed c =
    let r = c.args.resource in
    let i = c.args.instance in
    let key = timer_key c.in-At.tick r i in
    rw c.in-At.is
    (on_ok_weaker c.start_timer.result
    (λ put j. put j
    ∙ ap (λ o. cond (same_key key j) (Some (Timer i)) o) (c.clear_timer-in-At.ensures.cleared j)
    ∙ changed_is (same_key key j) (is_timer_of r i j) (Timer i) (waiting c.args.self.now j))
    c.start_timer.ensures.put)

pub returns-in-At-clause-timed : goal.returns-in-At-clause-timed
returns-in-At-clause-timed c =
    on_ok_both c.start_timer.result
    (λ put due. timed_after c.args.self.now (waiting c.clear_timer-in-At.new.self) c.start_timer.new.self c.args.resource c.args.instance c.in-At.tick
    c.requires.timed c.requires.home c.requires.instance c.clear_timer-in-At.ensures.cleared put (rw (← c.clear_timer-in-At.ensures.due) due))
    c.start_timer.ensures.put c.start_timer.ensures.due

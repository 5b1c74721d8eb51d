use Rattle.fb_types.proofs.Common.{refl, sym, ap, subst, ◌∙◌, Some, arith, Event, system_of, path_at}
use Rattle.fb_types.specs.declared.run.TimerAsk.TheVariants.{At}
use Rattle.fb_check_names.specs.Numbers.{kind_of_number}
use Rattle.fb_resource.proofs.lemmas.OpenIs.{IsStarted, below_more, other_event, put_none, restart_below, restart_put}
use Rattle.fb_resource.proofs.lemmas.ReadyIs.{lies_in, order_timer}
use Rattle.fb_resource.proofs.opening.start_restart.Goals as goal

pub set_timer-requires-clause-home : goal.set_timer-requires-clause-home
set_timer-requires-clause-home c =
    lies_in c.args.system.now 0 c.resource_of-resource.result c.args.instance c.args.agenda.now c.requires.order (sym c.resource_of-resource.ensures.resource)

pub returns-in_ok-set_timer-in-Event-clause-put : goal.returns-in_ok-set_timer-in-Event-clause-put
returns-in_ok-set_timer-in-Event-clause-put c =
    let i = c.args.system.now in
    let n = c.args.instance in
    restart_put i n c.args.agenda.now c.set_timer.new.self
    (sym c.kind.ensures ∙ ap (kind_of_number i.library) c.in-Event.is ∙ ap (λ k. Some (Event k)) c.in-Restart.is)
    (c.facts.ensures.numbered n c.requires.instance) c.requires.timers
    (subst (λ r. IsStarted r n c.args.agenda.now c.set_timer.new.self) c.resource_of-resource.ensures.resource c.in_ok-set_timer-in-Event.ensures.changed)

pub returns-in_ok-set_timer-in-Event-clause-order : goal.returns-in_ok-set_timer-in-Event-clause-order
returns-in_ok-set_timer-in-Event-clause-order c =
    let i = c.args.system.now in
    let n = c.args.instance in
    let r = c.resource_of-resource.result in
    order_timer i 0 r n (At 0) c.args.agenda.now c.set_timer.new.self c.requires.instance (sym c.resource_of-resource.ensures.resource)
    c.resource_of-resource.ensures.named (omega arith) c.in_ok-set_timer-in-Event.ensures.changed c.in_ok-set_timer-in-Event.ensures.timed c.requires.order

pub returns-in_ok-set_timer-in-Event-clause-timers : goal.returns-in_ok-set_timer-in-Event-clause-timers
returns-in_ok-set_timer-in-Event-clause-timers c =
    restart_below c.resource_of-resource.result c.args.instance c.args.agenda.now c.set_timer.new.self c.requires.timers c.in_ok-set_timer-in-Event.ensures.changed

pub returns-in_default : goal.returns-in_default
returns-in_default c =
    let i = c.args.system.now in
    let n = c.args.instance in
    let kind = sym c.kind.ensures ∙ ap (kind_of_number i.library) c.in-Event.is in
    record {
      put = put_none i c.args.agenda.now (path_at (system_of i) n) (other_event (system_of i) (path_at (system_of i) n) c.in-Event.kind kind c.in_default.not-Restart);
      order = c.requires.order;
      timers = below_more n c.args.agenda.now c.requires.timers;
      due = refl;
    }

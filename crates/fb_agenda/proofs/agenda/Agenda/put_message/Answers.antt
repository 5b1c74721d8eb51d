use Rattle.fb_types.proofs.Common.{◌≡◌, ap, arith, subst, OnOk}
use Rattle.fb_types.specs.declared.key.Key.{Key}
use Rattle.fb_types.specs.declared.run.Event.TheVariants.{Arrival}
use Rattle.fb_agenda.specs.Agendas.{IsPut, local_events}
use Rattle.fb_agenda.proofs.lemmas.QueueAndOthers.{contents, put_later_apart, put_later_waits}
use Rattle.fb_agenda.proofs.agenda.Agenda.put_message.Goals as goal

pub put-requires : goal.put-requires
put-requires c = λ timer. let class : c.key_of_arrival-key.result.class ≡ 2 = ap (λ (z : Key). z.class) c.key_of_arrival-key.ensures in omega (arith, timer, class)

pub invariant_of-self : goal.invariant_of-self
invariant_of-self c =
    let i = c.self.inside in
    let class : c.key_of_arrival-key.result.class ≡ 2 = ap (λ (z : Key). z.class) c.key_of_arrival-key.ensures in
    put_later_apart (local_events i.now) i.later c.put.new.self c.self.invariant c.key_of_arrival-key.result (Arrival c.args.message) (c.self.invariant.queue.local c.key_of_arrival-key.result (λ local. omega (arith, local, class)))
    c.put.result c.put.ensures.put c.put.ensures.err

pub returns-clause-put : goal.returns-clause-put
returns-clause-put c =
    let i = c.self.inside in
    let class : c.key_of_arrival-key.result.class ≡ 2 = ap (λ (z : Key). z.class) c.key_of_arrival-key.ensures in
    rw (← c.self.view_is)
    (subst (λ (k : Key). OnOk c.put.result (IsPut (contents (local_events i.now) i.later) (contents (local_events i.now) c.put.new.self) k (Arrival c.args.message))) c.key_of_arrival-key.ensures
    (put_later_waits (local_events i.now) i.later c.put.new.self c.self.invariant c.key_of_arrival-key.result (Arrival c.args.message) (c.self.invariant.queue.local c.key_of_arrival-key.result (λ local. omega (arith, local, class))) c.put.result c.put.ensures.put))

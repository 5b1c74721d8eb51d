use Rattle.fb_agenda.proofs.lemmas.Common.{◌≡◌, ap, arith, subst, OnOk, Key, IsPut, local_events}
use Rattle.fb_types.specs.declared.run.Event.TheVariants.{Stimulus}
use Rattle.fb_agenda.proofs.lemmas.QueueAndOthers.{contents, put_later_apart, put_later_waits}
use Rattle.fb_agenda.proofs.agenda.Agenda.put_stimulus.Goals as goal

pub put-requires : goal.put-requires
put-requires c = λ timer. let class : c.stimulus-key.result.class ≡ 0 = ap (λ (z : Key). z.class) c.stimulus-key.ensures in omega (arith, timer, class)

pub invariant_of-self : goal.invariant_of-self
invariant_of-self c =
    let i = c.self.inside in
    let class : c.stimulus-key.result.class ≡ 0 = ap (λ (z : Key). z.class) c.stimulus-key.ensures in
    put_later_apart (local_events i.now) i.later c.put.new.self c.self.invariant c.stimulus-key.result (Stimulus c.args.row) (c.self.invariant.queue.local c.stimulus-key.result (λ local. omega (arith, local, class)))
    c.put.result c.put.ensures.put c.put.ensures.err

pub returns-clause-put : goal.returns-clause-put
returns-clause-put c =
    let i = c.self.inside in
    let class : c.stimulus-key.result.class ≡ 0 = ap (λ (z : Key). z.class) c.stimulus-key.ensures in
    rw (← c.self.view_is)
    (subst (λ (k : Key). OnOk c.put.result (IsPut (contents (local_events i.now) i.later) (contents (local_events i.now) c.put.new.self) k (Stimulus c.args.row))) c.stimulus-key.ensures
    (put_later_waits (local_events i.now) i.later c.put.new.self c.self.invariant c.stimulus-key.result (Stimulus c.args.row) (c.self.invariant.queue.local c.stimulus-key.result (λ local. omega (arith, local, class))) c.put.result c.put.ensures.put))

use Rattle.fb_types.proofs.Common.{◌∷◌, [], Result, Ok, Err, arith, ap, subst, OnErr, OnOk, stimulus_key}
use Rattle.fb_types.specs.declared.run.Event.TheVariants.{Given}
use Rattle.fb_types.specs.Keys.{with_all}
use Rattle.fb_agenda.specs.Agendas.{Contents}
use Rattle.fb_net.specs.Events.{event_of}
use Rattle.fb_resource.proofs.lemmas.OpenIs.{named_resource, narrow_resource}
use Rattle.fb_sim_machine.specs.Machines.{IsAt}
use Rattle.fb_sim_machine.proofs.lemmas.GivenIs.{at_put, given_waits, ready_put}
use Rattle.fb_sim_machine.proofs.lemmas.Nexts.{on_agenda}
use Rattle.fb_sim_machine.proofs.machine.Machine.give.Goals as goal

on_ok : {A E P Q : Type 0} (r : Result A E) → (P → Q) → OnOk r P → OnOk r Q
on_ok (Ok x) f p = f p
on_ok (Err x) f p = tt

on_err : {A E P Q : Type 0} (r : Result A E) → (P → Q) → OnErr r P → OnErr r Q
on_err (Ok x) f p = tt
on_err (Err x) f p = f p

pub overflow_cast-resource : goal.overflow_cast-resource
overflow_cast-resource c =
    record { fits = narrow_resource c.args.system.now c.facts.ensures.accepted c.facts.ensures.limits c.args.given.target.instance c.resource-resource.result c.resource-resource.ensures }

pub returns-clause-given : goal.returns-clause-given
returns-clause-given c =
    let i = c.args.system.now in
    let m = c.args.self.now in
    let g = c.args.given in
    let new = c.put_given.new.self in
    on_ok c.put_given.result
    (λ put s a at.
    subst (λ r. IsAt i s (with_all ((stimulus_key c.args.tick r g.row, event_of i (Given g)) ∷ []) a) (on_agenda new m)) c.resource-resource.ensures
    (at_put i m new (stimulus_key c.args.tick c.resource-resource.result g.row) (Given g) put c.put_given.ensures.due s a at))
    c.put_given.ensures.put

pub returns-clause-ready : goal.returns-clause-ready
returns-clause-ready c =
    let i = c.args.system.now in
    let m = c.args.self.now in
    let g = c.args.given in
    let r = c.resource-resource.result in
    let named = named_resource i c.facts.ensures.accepted c.facts.ensures.limits g.target.instance r c.resource-resource.ensures in
    on_ok c.put_given.result
    (λ put limit from le ready.
    ready_put i m c.put_given.new.self (stimulus_key c.args.tick r g.row) (Given g) put c.put_given.ensures.due limit from (λ one. omega (arith, one))
    (given_waits i from c.args.tick r g c.requires.row c.requires.typed c.resource-resource.ensures named le) ready)
    c.put_given.ensures.put

pub returns-clause-err : goal.returns-clause-err
returns-clause-err c = on_err c.put_given.result (λ same. ap (λ (a : Contents). on_agenda a c.args.self.now) same) c.put_given.ensures.err

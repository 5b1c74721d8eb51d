use Rattle.fb_types.proofs.Common.{◌∷◌, ◌++◌, [], subst, arith, Taken, after, opening, system_of, stimuli_of}
use Rattle.fb_net.specs.Events.{event_of}
use Rattle.fb_sim_machine.proofs.lemmas.AgendaIs.{all_falls, at_left, machine_left, takes_least}
use Rattle.fb_sim_machine.proofs.lemmas.JoinedRuns.{reaches_more, reaches_none}
use Rattle.fb_stop.specs.Copies.{Steps}
use Rattle.fb_stop.proofs.lemmas.runs.Ending.{is_stop, never_stops}
use Rattle.fb_stop.proofs.replay.Replay.go_on.Goals as goal

pub loop-self-init : goal.loop-self-init
loop-self-init c =
    let i = c.args.system.now in
    record {
      ready = (0, c.requires.ready);
      at = opening (system_of i) (stimuli_of i);
      taken = [];
      reaches = reaches_none i c.args.horizon c.args.limit (opening (system_of i) (stimuli_of i));
      is = c.requires.at;
      copies = c.requires.copies;
    }

pub step-requires-clause-ready : goal.step-requires-clause-ready
step-requires-clause-ready c =
    let inv = c.loop-self.invariant in
    let found = c.loop-self-test.ensures in
    machine_left c.args.system.now c.args.limit inv.ready.0 c.take_least_into.new.least_event.key c.take_least_into.new.least_event.event c.loop-self.self.run _ inv.ready.1 found.left found.found found.least found.due

pub step-requires-clause-represents : goal.step-requires-clause-represents
step-requires-clause-represents c =
    let inv = c.loop-self.invariant in
    let k = c.take_least_into.new.least_event.key in
    (inv.at.state, inv.at.agenda, at_left c.args.system.now k inv.at c.loop-self.self.run _ inv.is c.loop-self-test.ensures.left, inv.copies)

pub step-requires-clause-event : goal.step-requires-clause-event
step-requires-clause-event c = (c.loop-self.invariant.ready.1.traffic.order.waits c.take_least_into.new.least_event.key c.take_least_into.new.least_event.event c.loop-self-test.ensures.found).event

pub step-requires-clause-own : goal.step-requires-clause-own
step-requires-clause-own c = (c.loop-self.invariant.ready.1.traffic.order.waits c.take_least_into.new.least_event.key c.take_least_into.new.least_event.event c.loop-self-test.ensures.found).own

pub step-requires-clause-typed : goal.step-requires-clause-typed
step-requires-clause-typed c = (c.loop-self.invariant.ready.1.traffic.order.waits c.take_least_into.new.least_event.key c.take_least_into.new.least_event.event c.loop-self-test.ensures.found).typed

pub step-requires-clause-named : goal.step-requires-clause-named
step-requires-clause-named c = (c.loop-self.invariant.ready.1.traffic.order.waits c.take_least_into.new.least_event.key c.take_least_into.new.least_event.event c.loop-self-test.ensures.found).resource

pub returns-in-Some : goal.returns-in-Some
returns-in-Some c =
    let i = c.args.system.now in
    let inv = c.loop-self.invariant in
    let found = c.loop-self-test.ensures in
    let k = c.take_least_into.new.least_event.key in
    let e = c.take_least_into.new.least_event.event in
    let steps = c.in_ok-found.ensures.steps inv.at.state inv.at.agenda (at_left i k inv.at c.loop-self.self.run _ inv.is found.left) inv.copies in
    let stop = subst (λ o. Steps i c.args.limit inv.at.state inv.at.agenda k (event_of i e) c.step.new.self o) c.in-Some.is steps in
    is_stop i c.args.horizon c.args.limit inv.at inv.taken inv.reaches c.loop-self.self.run.traffic.agenda inv.is.agenda k e c.in-Some.found found.found found.least found.below stop

pub loop-self-smaller : goal.loop-self-smaller
loop-self-smaller c =
    let ready = c.loop-self.invariant.ready in
    let found = c.loop-self-test.ensures in
    let k = c.take_least_into.new.least_event.key in
    let spent = c.in_ok-found.ensures.spent c.in_default.is in
    let past = ready.1.past k.resource spent.before spent.was in
    let later = (ready.1.traffic.order.waits k c.take_least_into.new.least_event.event found.found).later in
    all_falls c.args.horizon c.args.limit k c.loop-self.self.run.meters.items c.step.new.self.run.meters.items spent (omega (arith, past, later)) found.below

pub loop-self-preserved : goal.loop-self-preserved
loop-self-preserved c =
    let i = c.args.system.now in
    let inv = c.loop-self.invariant in
    let found = c.loop-self-test.ensures in
    let k = c.take_least_into.new.least_event.key in
    let e = c.take_least_into.new.least_event.event in
    let steps = c.in_ok-found.ensures.steps inv.at.state inv.at.agenda (at_left i k inv.at c.loop-self.self.run _ inv.is found.left) inv.copies in
    let stepped = subst (λ o. Steps i c.args.limit inv.at.state inv.at.agenda k (event_of i e) c.step.new.self o) c.in_default.is steps in
    let taken = stepped.taken in
    let least = takes_least i c.args.limit inv.at k e _ c.loop-self.self.run.traffic.agenda stepped.from c.step.new.self.run inv.is.agenda found.found found.least taken in
    let t : Taken = record { key = k; event = event_of i e; effect = taken.effect } in
    record {
      ready = (k.tick, c.in_ok-found.ensures.ready);
      at = after inv.at t;
      taken = inv.taken ++ t ∷ [];
      reaches = reaches_more i c.args.horizon c.args.limit (opening (system_of i) (stimuli_of i)) inv.at inv.taken t inv.reaches least taken.stops found.below;
      is = taken.at;
      copies = stepped.copies;
    }

pub returns : goal.returns
returns c =
    let inv = c.loop-self.invariant in
    never_stops c.args.system.now c.args.horizon c.args.limit inv.at inv.taken inv.reaches c.loop-self.self.run.traffic.agenda inv.is.agenda c.loop-self-test.ensures.none

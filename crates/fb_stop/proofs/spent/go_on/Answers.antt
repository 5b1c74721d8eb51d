use Rattle.fb_types.proofs.Common.{◌∷◌, ◌++◌, ◌∙◌, [], Option, None, refl, subst, arith, true≢false, Taken, after, opening, system_of, stimuli_of}
use Rattle.fb_types.specs.declared.value.Reason.{Reason}
use Rattle.fb_net.specs.Events.{event_of}
use Rattle.fb_sim_machine.proofs.lemmas.AgendaIs.{all_falls, at_left, machine_left, takes_least}
use Rattle.fb_sim_machine.proofs.lemmas.JoinedRuns.{reaches_more, reaches_none}
use Rattle.fb_stop.specs.Spent.{ChargesAll, HasSpent, is_of, used}
use Rattle.fb_stop.proofs.lemmas.runs.Ending.{never_stops}
use Rattle.fb_stop.proofs.lemmas.runs.Spending.{are_spent, charged_alike, charged_on}
use Rattle.fb_stop.proofs.spent.go_on.Goals as goal

pub loop-moment-init : goal.loop-moment-init
unfolding ChargesAll
loop-moment-init c =
    let i = c.args.system.now in
    record {
      ready = (0, c.requires.ready);
      at = opening (system_of i) (stimuli_of i);
      taken = [];
      reaches = reaches_none i c.args.horizon c.args.limit (opening (system_of i) (stimuli_of i));
      is = c.requires.at;
      counted = c.requires.counted;
      charged = refl;
    }

pub step-requires-clause-ready : goal.step-requires-clause-ready
step-requires-clause-ready c =
    let inv = c.loop-moment.invariant in
    let found = c.loop-moment-test.ensures in
    machine_left c.args.system.now c.args.limit inv.ready.0 c.take_least_into.new.least_event.key c.take_least_into.new.least_event.event c.loop-moment.run _ inv.ready.1 found.left found.found found.least found.due

pub step-requires-clause-represents : goal.step-requires-clause-represents
step-requires-clause-represents c =
    let inv = c.loop-moment.invariant in
    let k = c.take_least_into.new.least_event.key in
    (inv.at.state, inv.at.agenda, at_left c.args.system.now k inv.at c.loop-moment.run _ inv.is c.loop-moment-test.ensures.left)

pub step-requires-clause-event : goal.step-requires-clause-event
step-requires-clause-event c = (c.loop-moment.invariant.ready.1.traffic.order.waits c.take_least_into.new.least_event.key c.take_least_into.new.least_event.event c.loop-moment-test.ensures.found).event

pub step-requires-clause-own : goal.step-requires-clause-own
step-requires-clause-own c = (c.loop-moment.invariant.ready.1.traffic.order.waits c.take_least_into.new.least_event.key c.take_least_into.new.least_event.event c.loop-moment-test.ensures.found).own

pub step-requires-clause-typed : goal.step-requires-clause-typed
step-requires-clause-typed c = (c.loop-moment.invariant.ready.1.traffic.order.waits c.take_least_into.new.least_event.key c.take_least_into.new.least_event.event c.loop-moment-test.ensures.found).typed

pub step-requires-clause-named : goal.step-requires-clause-named
step-requires-clause-named c = (c.loop-moment.invariant.ready.1.traffic.order.waits c.take_least_into.new.least_event.key c.take_least_into.new.least_event.event c.loop-moment-test.ensures.found).resource

pub returns-in-Some-clause-spent : goal.returns-in-Some-clause-spent
returns-in-Some-clause-spent c asked =
    let i = c.args.system.now in
    let inv = c.loop-moment.invariant in
    let found = c.loop-moment-test.ensures in
    let k = c.take_least_into.new.least_event.key in
    let e = c.take_least_into.new.least_event.event in
    let m = c.args.moment in
    let old = c.loop-moment.spent.items in
    let new = c.step.new.spent.items in
    let next = c.step.new.run in
    let spent = c.in_ok-stop.ensures.spent inv.at.state inv.at.agenda (at_left i k inv.at c.loop-moment.run _ inv.is found.left) in
    are_spent i c.args.horizon c.args.limit m inv.at inv.taken inv.reaches c.args.spent.now.items old new inv.charged c.loop-moment.run.traffic.agenda k e c.in-Some.field-0 next inv.is.agenda found.found found.least found.below
    (subst (λ (o : Option Reason). HasSpent i c.args.limit m inv.at.state inv.at.agenda k (event_of i e) o next old new) c.in-Some.is spent)

pub loop-moment-smaller : goal.loop-moment-smaller
loop-moment-smaller c =
    let ready = c.loop-moment.invariant.ready in
    let found = c.loop-moment-test.ensures in
    let k = c.take_least_into.new.least_event.key in
    let spent = c.in_ok-stop.ensures.less c.in_default.is in
    let past = ready.1.past k.resource spent.before spent.was in
    let later = (ready.1.traffic.order.waits k c.take_least_into.new.least_event.event found.found).later in
    all_falls c.args.horizon c.args.limit k c.loop-moment.run.meters.items c.step.new.run.meters.items spent (omega (arith, past, later)) found.below

pub loop-moment-preserved : goal.loop-moment-preserved
loop-moment-preserved c =
    let i = c.args.system.now in
    let inv = c.loop-moment.invariant in
    let found = c.loop-moment-test.ensures in
    let k = c.take_least_into.new.least_event.key in
    let e = c.take_least_into.new.least_event.event in
    let m = c.args.moment in
    let old = c.loop-moment.spent.items in
    let new = c.step.new.spent.items in
    let next = c.step.new.run in
    let spent = c.in_ok-stop.ensures.spent inv.at.state inv.at.agenda (at_left i k inv.at c.loop-moment.run _ inv.is found.left) in
    let h = subst (λ (o : Option Reason). HasSpent i c.args.limit m inv.at.state inv.at.agenda k (event_of i e) o next old new) c.in_default.is spent in
    let taken = h.taken in
    let least = takes_least i c.args.limit inv.at k e _ c.loop-moment.run.traffic.agenda h.from next inv.is.agenda found.found found.least taken in
    let t : Taken = record { key = k; event = event_of i e; effect = taken.effect } in
    record {
      ready = (k.tick, c.in_ok-stop.ensures.ready);
      at = after inv.at t;
      taken = inv.taken ++ t ∷ [];
      reaches = reaches_more i c.args.horizon c.args.limit (opening (system_of i) (stimuli_of i)) inv.at inv.taken t inv.reaches least taken.stops found.below;
      is = taken.at;
      counted = charged_alike (is_of m k) (system_of i) (event_of i e) (used c.args.limit k inv.at.state taken.effect.state) old new h.charged ∙ inv.counted;
      charged = charged_on i c.args.horizon c.args.limit m inv.at inv.taken inv.reaches c.args.spent.now.items old new inv.charged k (event_of i e) None next h;
    }

pub returns-in-Some-clause-counted : goal.returns-in-Some-clause-counted
returns-in-Some-clause-counted c =
    let i = c.args.system.now in
    let inv = c.loop-moment.invariant in
    let found = c.loop-moment-test.ensures in
    let k = c.take_least_into.new.least_event.key in
    let e = c.take_least_into.new.least_event.event in
    let h = c.in_ok-stop.ensures.spent inv.at.state inv.at.agenda (at_left i k inv.at c.loop-moment.run _ inv.is found.left) in
    charged_alike (is_of c.args.moment k) (system_of i) (event_of i e) (used c.args.limit k inv.at.state h.taken.effect.state) c.loop-moment.spent.items c.step.new.spent.items h.charged ∙ inv.counted

pub returns-clause-counted : goal.returns-clause-counted
returns-clause-counted c = c.loop-moment.invariant.counted

pub returns-in-Some-clause-none : goal.returns-in-Some-clause-none
returns-in-Some-clause-none c = λ no. absurd (true≢false no)

pub returns-clause-none : goal.returns-clause-none
returns-clause-none c = λ _.
    let inv = c.loop-moment.invariant in
    never_stops c.args.system.now c.args.horizon c.args.limit inv.at inv.taken inv.reaches c.loop-moment.run.traffic.agenda inv.is.agenda c.loop-moment-test.ensures.none

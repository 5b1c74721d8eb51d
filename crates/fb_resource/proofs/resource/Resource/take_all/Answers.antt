use Rattle.fb_resource.proofs.lemmas.Common.{◌<◌, ◌≤◌, Bool, refl, sym, ap, subst, ◌∙◌, arith, unwrap_or, event_of, meter_of, Finds}
use Rattle.fb_laws.proofs.lemmas.soundness.Accepting.{sound_of}
use Rattle.fb_resource.proofs.lemmas.Finding.{finds_taken}
use Rattle.fb_resource.proofs.lemmas.Fuel.{fuel_falls}
use Rattle.fb_resource.proofs.lemmas.Leaving.{ready_left}
use Rattle.fb_resource.proofs.lemmas.Lone.{due_next, ready_alike, taken_alike}
use Rattle.fb_resource.proofs.lemmas.Meters.{metered_fresh, past_fresh, unused_below, unused_fresh}
use Rattle.fb_resource.specs.Resources.{mark_of}
use Rattle.fb_resource.specs.Runs.{Running, in_run, with_traffic}
use Rattle.fb_resource.specs.Takings.{with_least_event}
use Rattle.fb_resource.proofs.lemmas.Running.{comes_first, comes_more, has_run, here_at, marked, ran_rest, ran_stop, running_first, running_more, running_rest}
use Rattle.fb_resource.proofs.lemmas.Standing.{HasLeft}
use Rattle.fb_resource.proofs.resource.Resource.take_all.Goals as goal

-- The first event was looked for on the agenda of the beginning.
pub events-init : goal.events-init
events-init c =
    let i = c.args.system.now in
    let x = c.args.self.now in
    let counts = c.new-counts.result in
    let begins = c.new-counts.ensures in
    let empty = c.requires.empty in
    let q = c.args.traffic.now in
    let is = c.take_least_into-found.ensures in
    let least_event = c.take_least_into-found.new.least_event in
    record {
      was = q.agenda;
      finds = finds_taken c.args.to q.agenda c.take_least_into-found.new.self c.take_least_into-found.result least_event.key least_event.event is.found is.below is.least is.left is.none is.kept;
      due = is.due;
      running = running_first i c.args.steps x counts q empty c.requires.of (metered_fresh c.args.steps counts begins) (past_fresh x.clock counts begins);
      ahead = c.requires.ahead;
      live = c.requires.live;
      tree = refl;
      unused = unused_fresh c.args.to counts begins;
      comes = λ l represents. comes_first i c.args.steps x counts q empty c.args.to l c.requires.live (unused_fresh x.clock counts begins) represents;
    }

-- ---- The event in `Least`

pub take-requires-clause-tree : goal.take-requires-clause-tree
take-requires-clause-tree c =
    let i = c.args.system.now in
    let inv = c.events.invariant in
    let k = c.events.least.key in
    let e = c.events.least.event in
    let finds = subst (λ (b : Bool). Finds c.args.to inv.was b k e c.events.traffic.agenda) c.events-test.true inv.finds in
    let may = inv.running.ready.order.waits k e finds.found in
    sym (inv.running.home k e finds.found)

pub take-requires-clause-traffic : goal.take-requires-clause-traffic
take-requires-clause-traffic c =
    let i = c.args.system.now in
    let inv = c.events.invariant in
    let k = c.events.least.key in
    let e = c.events.least.event in
    let finds = subst (λ (b : Bool). Finds c.args.to inv.was b k e c.events.traffic.agenda) c.events-test.true inv.finds in
    let may = inv.running.ready.order.waits k e finds.found in
    let old = in_run c.events.self c.events.counts (record c.events.traffic { agenda = inv.was }) in
    ready_left i c.events.self.clock k old.traffic c.events.traffic.agenda inv.running.ready finds.left finds.least inv.due

pub take-requires-clause-represents : goal.take-requires-clause-represents
take-requires-clause-represents c =
    let i = c.args.system.now in
    let inv = c.events.invariant in
    let k = c.events.least.key in
    let e = c.events.least.event in
    let finds = subst (λ (b : Bool). Finds c.args.to inv.was b k e c.events.traffic.agenda) c.events-test.true inv.finds in
    let may = inv.running.ready.order.waits k e finds.found in
    let old = in_run c.events.self c.events.counts (record c.events.traffic { agenda = inv.was }) in
    let first = c.requires.of.represents c.args.steps in
    let s = (inv.comes first.0 first.1).represents in
    (s.state, here_at i s.state k old (inv.running.home k e finds.found) may.later s.here)

pub take-requires-clause-event : goal.take-requires-clause-event
take-requires-clause-event c =
    let i = c.args.system.now in
    let inv = c.events.invariant in
    let k = c.events.least.key in
    let e = c.events.least.event in
    let finds = subst (λ (b : Bool). Finds c.args.to inv.was b k e c.events.traffic.agenda) c.events-test.true inv.finds in
    let may = inv.running.ready.order.waits k e finds.found in
    may.event

pub take-requires-clause-typed : goal.take-requires-clause-typed
take-requires-clause-typed c =
    let i = c.args.system.now in
    let inv = c.events.invariant in
    let k = c.events.least.key in
    let e = c.events.least.event in
    let finds = subst (λ (b : Bool). Finds c.args.to inv.was b k e c.events.traffic.agenda) c.events-test.true inv.finds in
    let may = inv.running.ready.order.waits k e finds.found in
    may.typed

pub take-requires-clause-named : goal.take-requires-clause-named
take-requires-clause-named c =
    let i = c.args.system.now in
    let inv = c.events.invariant in
    let k = c.events.least.key in
    let e = c.events.least.event in
    let finds = subst (λ (b : Bool). Finds c.args.to inv.was b k e c.events.traffic.agenda) c.events-test.true inv.finds in
    let may = inv.running.ready.order.waits k e finds.found in
    may.resource

-- ---- It stops

pub returns-in-Some : goal.returns-in-Some
returns-in-Some c =
    let i = c.args.system.now in
    let inv = c.events.invariant in
    let k = c.events.least.key in
    let e = c.events.least.event in
    let finds = subst (λ (b : Bool). Finds c.args.to inv.was b k e c.events.traffic.agenda) c.events-test.true inv.finds in
    let may = inv.running.ready.order.waits k e finds.found in
    let old = in_run c.events.self c.events.counts (record c.events.traffic { agenda = inv.was }) in
    let a = c.events.traffic.agenda in
    let gave = c.in_ok-taken.ensures in
    let taken = c.in_ok-taken.taken in
    let mine = inv.running.home k e finds.found in
    let sound = sound_of i (record { accepted = c.facts.ensures.accepted; limits = c.facts.ensures.limits }) in
    let gone : HasLeft k e old.traffic.agenda a = record { found = finds.found; least = finds.least; left = finds.left } in
    let now : k.tick ≤ k.tick = omega arith in
    let first = c.requires.of.represents c.args.steps in
    let s = (inv.comes first.0 first.1).represents in
    let t = gave.taken s.state k.tick now (here_at i s.state k old mine may.later s.here) s.counts in
    let tick = gave.tick in
    let past = inv.running.past in
    let later = may.later in
    let within : unwrap_or c.take.new.counts.tick 0 ≤ k.tick = omega (arith, tick, past, later) in
    let apart = c.take.new in
    let z = apart.least in
    let mid = with_least_event taken.raised z apart.traffic in
    let last = c.put_next.new.agenda in
    let new : Running = record { tree = apart.tree; clock = k.tick; meter = apart.counts; traffic = record apart.traffic { agenda = last }; stopped = taken.stop } in
    let put = c.in_ok-put_next.ensures.put in
    let went = record c.events.traffic { agenda = a } in
    let ready = ready_alike i k.tick mid last put (c.put_next.ensures.due ∙ sym (due_next taken.raised z.key z.event apart.traffic.agenda)) gave.traffic in
    has_run i c.args.steps (with_traffic c.args.self.now c.args.traffic.now) new c.args.to _ c.requires.of
    (running_more i c.args.steps old new k e a sound gave.tree mine inv.live may.event.here gone inv.running s.state
    (taken_alike i c.args.steps s.state k (event_of i e) taken.stop k.tick apart.tree apart.counts went mid last put t) gave.counts within ready)
    (gave.tree ∙ inv.tree)
    (λ l represents.
    let comes = inv.comes l represents in
    let m = comes.represents in
    let its = gave.taken m.state k.tick now (here_at i m.state k old mine may.later m.here) m.counts in
    ran_stop i c.args.steps old new k e a sound gave.tree mine inv.live may.event.here gone c.args.self.now.tree.resource c.args.to l comes inv.tree finds.below
    (taken_alike i c.args.steps m.state k (event_of i e) taken.stop k.tick apart.tree apart.counts went mid last put its) c.in-Some.reason c.in-Some.is refl)
    (marked z.key apart.tree.resource taken.stop c.in-Some.reason (gave.moment.1 ∙ mine ∙ sym gave.tree) c.in-Some.is ∙ ap (λ t. mark_of apart.tree.resource t taken.stop) gave.moment.0)

-- ---- One event more

pub events-smaller : goal.events-smaller
events-smaller c =
    let i = c.args.system.now in
    let inv = c.events.invariant in
    let k = c.events.least.key in
    let e = c.events.least.event in
    let finds = subst (λ (b : Bool). Finds c.args.to inv.was b k e c.events.traffic.agenda) c.events-test.true inv.finds in
    let may = inv.running.ready.order.waits k e finds.found in
    let spent = c.in_ok-taken.ensures.spent c.in_default.is in
    let past = inv.running.past in
    let later = may.later in
    fuel_falls c.args.to c.args.steps k.tick c.events.counts c.take.new.counts spent.0 spent.1 (omega (arith, past, later)) finds.below

pub events-preserved : goal.events-preserved
events-preserved c =
    let i = c.args.system.now in
    let inv = c.events.invariant in
    let k = c.events.least.key in
    let e = c.events.least.event in
    let finds = subst (λ (b : Bool). Finds c.args.to inv.was b k e c.events.traffic.agenda) c.events-test.true inv.finds in
    let may = inv.running.ready.order.waits k e finds.found in
    let old = in_run c.events.self c.events.counts (record c.events.traffic { agenda = inv.was }) in
    let a = c.events.traffic.agenda in
    let gave = c.in_ok-taken.ensures in
    let taken = c.in_ok-taken.taken in
    let mine = inv.running.home k e finds.found in
    let sound = sound_of i (record { accepted = c.facts.ensures.accepted; limits = c.facts.ensures.limits }) in
    let gone : HasLeft k e old.traffic.agenda a = record { found = finds.found; least = finds.least; left = finds.left } in
    let now : k.tick ≤ k.tick = omega arith in
    let first = c.requires.of.represents c.args.steps in
    let s = (inv.comes first.0 first.1).represents in
    let t = gave.taken s.state k.tick now (here_at i s.state k old mine may.later s.here) s.counts in
    let tick = gave.tick in
    let past = inv.running.past in
    let later = may.later in
    let within : unwrap_or c.take.new.counts.tick 0 ≤ k.tick = omega (arith, tick, past, later) in
    let apart = c.take.new in
    let z = apart.least in
    let mid = with_least_event taken.raised z apart.traffic in
    let new : Running = record { tree = apart.tree; clock = k.tick; meter = apart.counts; traffic = mid; stopped = taken.stop } in
    let below : k.tick < c.args.to = finds.below in
    let ahead : k.tick ≤ c.args.to = omega (arith, below) in
    let going = c.in_default.is in
    record {
      was = mid.agenda;
      finds = c.in_ok-found.ensures.finds;
      due = c.in_ok-found.ensures.due ∙ sym (due_next taken.raised z.key z.event apart.traffic.agenda);
      running = running_more i c.args.steps old new k e a sound gave.tree mine inv.live may.event.here gone inv.running s.state t gave.counts within gave.traffic;
      ahead = ahead;
      live = going;
      tree = gave.tree ∙ inv.tree;
      unused = unused_below c.args.to k.tick (meter_of apart.counts) (gave.spent going).0 below;
      comes = λ l represents.
          let comes = inv.comes l represents in
          let m = comes.represents in
          let its = gave.taken m.state k.tick now (here_at i m.state k old mine may.later m.here) m.counts in
          comes_more i c.args.steps old new k e a sound gave.tree mine inv.live may.event.here gone c.args.self.now.tree.resource c.args.to l comes inv.tree finds.below its going;
    }

-- ---- Nothing is left below the tick

pub returns : goal.returns
returns c =
    let i = c.args.system.now in
    let inv = c.events.invariant in
    let old = in_run c.events.self c.events.counts (record c.events.traffic { agenda = inv.was }) in
    let a = c.events.traffic.agenda in
    let rest = subst (λ (b : Bool). Finds c.args.to inv.was b c.events.least.key c.events.least.event a) c.events-test.false inv.finds in
    let new : Running = record old { clock = c.args.to; traffic = record old.traffic { agenda = a } } in
    has_run i c.args.steps (with_traffic c.args.self.now c.args.traffic.now) new c.args.to _ c.requires.of
    (running_rest i c.args.steps old a c.args.to rest.kept inv.due rest.none inv.ahead inv.running)
    inv.tree
    (λ l represents. ran_rest i c.args.steps old a c.args.to rest.kept inv.due rest.none inv.ahead c.args.self.now.tree.resource l (inv.comes l represents) inv.tree inv.unused)
    (sym (ap (mark_of c.events.self.tree.resource c.args.to) inv.live))

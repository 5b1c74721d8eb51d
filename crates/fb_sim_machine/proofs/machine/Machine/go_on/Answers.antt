use Rattle.fb_types.proofs.Common.{◌<◌, Bool, length, refl, [], ◌∷◌, ◌++◌, map, sym, ap, subst, ◌∙◌, append-nil, arith, option_map, system_of, NoneBelow, lines_of, without, line_of, AtStop, Taken, after, Config}
use Rattle.fb_laws.proofs.lemmas.soundness.Accepting.{sound_of}
use Rattle.fb_laws.proofs.lemmas.takings.Effects.{takes_good}
use Rattle.fb_net.specs.Events.{event_of}
use Rattle.fb_resource.specs.Takings.{Finds, with_next}
use Rattle.fb_resource.proofs.lemmas.Finding.{finds_taken}
use Rattle.fb_resource.proofs.lemmas.Lone.{due_next}
use Rattle.fb_sim_machine.specs.Machines.{IsAt}
use Rattle.fb_sim_machine.specs.Pauses.{IsLater, Pauses}
use Rattle.fb_sim_machine.specs.declared.pause.Pause.TheVariants.{Stop}
use Rattle.fb_sim_machine.proofs.lemmas.JoinedRuns.{completes_after, count_came, halts, lines_more, none_came, reaches_more, reaches_none}
use Rattle.fb_sim_machine.proofs.lemmas.AgendaIs.{all_falls, at_left, completes_rest, completes_stop, machine_left, takes_least}
use Rattle.fb_sim_machine.proofs.lemmas.Nexts.{at_alike, machine_alike, on_agenda}
use Rattle.fb_sim_machine.proofs.lemmas.RisingTicks.{later_more, later_none}
use Rattle.fb_sim_machine.proofs.machine.Machine.go_on.Goals as goal

-- The first event was looked for on the agenda of the beginning.
pub events-init : goal.events-init
events-init c =
    let is = c.take_least_into-found.ensures in
    let least_event = c.take_least_into-found.new.least_event in
    let was = c.args.self.now.traffic.agenda in
    record {
      was = was;
      finds = finds_taken c.args.horizon was c.take_least_into-found.new.self c.take_least_into-found.result least_event.key least_event.event is.found is.below is.least is.left is.none is.kept;
      due = is.due;
      ready = c.requires.ready;
      represents = c.requires.represents;
      comes = λ start at. (
        start,
        [],
        at,
        reaches_none c.args.system.now c.args.horizon c.args.limit start,
        sym (append-nil (map (line_of (system_of c.args.system.now)) c.args.self.now.traffic.outbox.lines.items)),
      );
      quiet = λ start at one. refl;
      few = λ start at some. absurd (some refl);
      ahead = λ from le ready. (from, le, λ start at. later_none c.args.system.now c.args.limit from c.args.self.now ready);
      left = omega arith;
    }

-- ---- The event in `Least`

pub take-requires-clause-ready : goal.take-requires-clause-ready
take-requires-clause-ready c =
    let i = c.args.system.now in
    let inv = c.events.invariant in
    let k = c.events.least.key in
    let e = c.events.least.event in
    let was = on_agenda inv.was c.events.self in
    let finds = subst (λ (b : Bool). Finds c.args.horizon inv.was b k e c.events.self.traffic.agenda) c.events-test.true inv.finds in
    machine_left i c.args.limit inv.ready.0 k e was c.events.self.traffic.agenda inv.ready.1 finds.left finds.found finds.least inv.due

pub take-requires-clause-represents : goal.take-requires-clause-represents
take-requires-clause-represents c =
    let i = c.args.system.now in
    let inv = c.events.invariant in
    let k = c.events.least.key in
    let e = c.events.least.event in
    let was = on_agenda inv.was c.events.self in
    let finds = subst (λ (b : Bool). Finds c.args.horizon inv.was b k e c.events.self.traffic.agenda) c.events-test.true inv.finds in
    let represents = inv.represents in
    (represents.0.state, without k represents.0.agenda, at_left i k represents.0 was c.events.self.traffic.agenda represents.1 finds.left)

pub take-requires-clause-event : goal.take-requires-clause-event
take-requires-clause-event c =
    let i = c.args.system.now in
    let inv = c.events.invariant in
    let k = c.events.least.key in
    let e = c.events.least.event in
    let was = on_agenda inv.was c.events.self in
    let finds = subst (λ (b : Bool). Finds c.args.horizon inv.was b k e c.events.self.traffic.agenda) c.events-test.true inv.finds in
    (inv.ready.1.traffic.order.waits k e finds.found).event

pub take-requires-clause-own : goal.take-requires-clause-own
take-requires-clause-own c =
    let i = c.args.system.now in
    let inv = c.events.invariant in
    let k = c.events.least.key in
    let e = c.events.least.event in
    let was = on_agenda inv.was c.events.self in
    let finds = subst (λ (b : Bool). Finds c.args.horizon inv.was b k e c.events.self.traffic.agenda) c.events-test.true inv.finds in
    (inv.ready.1.traffic.order.waits k e finds.found).own

pub take-requires-clause-typed : goal.take-requires-clause-typed
take-requires-clause-typed c =
    let i = c.args.system.now in
    let inv = c.events.invariant in
    let k = c.events.least.key in
    let e = c.events.least.event in
    let was = on_agenda inv.was c.events.self in
    let finds = subst (λ (b : Bool). Finds c.args.horizon inv.was b k e c.events.self.traffic.agenda) c.events-test.true inv.finds in
    (inv.ready.1.traffic.order.waits k e finds.found).typed

pub take-requires-clause-named : goal.take-requires-clause-named
take-requires-clause-named c =
    let i = c.args.system.now in
    let inv = c.events.invariant in
    let k = c.events.least.key in
    let e = c.events.least.event in
    let was = on_agenda inv.was c.events.self in
    let finds = subst (λ (b : Bool). Finds c.args.horizon inv.was b k e c.events.self.traffic.agenda) c.events-test.true inv.finds in
    (inv.ready.1.traffic.order.waits k e finds.found).resource

-- ---- A stop

pub returns-in-Some-clause-pauses : goal.returns-in-Some-clause-pauses
returns-in-Some-clause-pauses c start is =
    let i = c.args.system.now in
    let inv = c.events.invariant in
    let k = c.events.least.key in
    let e = c.events.least.event in
    let was = on_agenda inv.was c.events.self in
    let finds = subst (λ (b : Bool). Finds c.args.horizon inv.was b k e c.events.self.traffic.agenda) c.events-test.true inv.finds in
    let comes = inv.comes start is in
    let d = comes.0 in
    let taken = c.in_ok-taken.ensures.taken d.state d.agenda (at_left i k d was c.events.self.traffic.agenda comes.2 finds.left) in
    let least = takes_least i c.args.limit d k e _ inv.was _ _ comes.2.agenda finds.found finds.least taken in
    let z = c.take.new.least in
    let new = on_agenda c.put_next.new.agenda c.take.new.self in
    let moment = c.in_ok-taken.ensures.moment in
    subst (λ n. Pauses i c.args.horizon c.args.limit start c.args.self.now new (Stop (record { tick = n; resource = z.key.resource; reason = c.in-Some.reason }))) (sym moment.0)
    (subst (λ n. Pauses i c.args.horizon c.args.limit start c.args.self.now new (Stop (record { tick = k.tick; resource = n; reason = c.in-Some.reason }))) (sym moment.1) (
      (inv.ready.1.traffic.order.waits k e finds.found).resource,
      completes_after i c.args.horizon c.args.limit start d comes.1 _ c.events.self.traffic.outbox.lines.items _ _ comes.3 comes.4
          (completes_stop i c.args.horizon c.args.limit d _ c.in-Some.reason _ _ least (taken.stops ∙ c.in-Some.is) finds.below taken.lines),
    ))

pub returns-in-Some-clause-ready : goal.returns-in-Some-clause-ready
returns-in-Some-clause-ready c =
    let i = c.args.system.now in
    let inv = c.events.invariant in
    let k = c.events.least.key in
    let e = c.events.least.event in
    let was = on_agenda inv.was c.events.self in
    let finds = subst (λ (b : Bool). Finds c.args.horizon inv.was b k e c.events.self.traffic.agenda) c.events-test.true inv.finds in
    let t = c.take.new.self in
    let raised = c.in_ok-taken.taken.raised in
    let z = c.take.new.least in
    (k.tick, machine_alike i t (with_next raised z.key z.event t.traffic.agenda) c.put_next.new.agenda c.in_ok-put_next.ensures.put c.args.limit k.tick (c.put_next.ensures.due ∙ sym (due_next raised z.key z.event t.traffic.agenda)) c.in_ok-taken.ensures.ready)

pub returns-in-Some-clause-stands : goal.returns-in-Some-clause-stands
unfolding returns-in-Some-clause-ready
returns-in-Some-clause-stands c start is =
    let i = c.args.system.now in
    let inv = c.events.invariant in
    let k = c.events.least.key in
    let e = c.events.least.event in
    let was = on_agenda inv.was c.events.self in
    let finds = subst (λ (b : Bool). Finds c.args.horizon inv.was b k e c.events.self.traffic.agenda) c.events-test.true inv.finds in
    let comes = inv.comes start is in
    let d = comes.0 in
    let machine = c.take.new.self in
    let raised = c.in_ok-taken.taken.raised in
    let z = c.take.new.least in
    let taken = c.in_ok-taken.ensures.taken d.state d.agenda (at_left i k d was c.events.self.traffic.agenda comes.2 finds.left) in
    let least = takes_least i c.args.limit d k e _ inv.was _ _ comes.2.agenda finds.found finds.least taken in
    let t : Taken = record { key = k; event = event_of i e; effect = taken.effect } in
    let reason = c.in-Some.reason in
    let new = on_agenda c.put_next.new.agenda machine in
    let moment = c.in_ok-taken.ensures.moment in
    let halts = halts i c.args.horizon c.args.limit start d comes.1 t reason comes.3 least (taken.stops ∙ c.in-Some.is) finds.below in
    let named = (inv.ready.1.traffic.order.waits k e finds.found).resource in (
      comes.1 ++ t ∷ [],
      record {
        chain = halts.chain;
        at = subst (λ (x : Config). IsAt i x.state x.agenda new) (sym halts.leads)
            (at_alike i machine (with_next raised z.key z.event machine.traffic.agenda) c.put_next.new.agenda c.in_ok-put_next.ensures.put (after d t).state (after d t).agenda taken.at);
        lines = lines_more comes.1 t _ _ _ comes.4 taken.lines;
      },
      halts.below,
      (
        subst (λ n. n < length (system_of i).resource_names) (sym moment.1) named,
        halts.ending ∙ ap (λ n. AtStop n k.resource reason) (sym moment.0) ∙ ap (λ n. AtStop z.key.tick n reason) (sym moment.1),
        subst (λ n. n < c.args.horizon) (sym moment.0) finds.below,
        λ from le ready.
            let ahead = inv.ahead from le ready in
            subst (λ n. IsLater i c.args.limit from n new (comes.1 ++ t ∷ [])) (sym moment.0)
            (later_more i c.args.limit from ahead.0 was new comes.1 t e (ahead.2 start is) finds.found (returns-in-Some-clause-ready c).1),
        comes.1,
        t,
        refl,
        λ one. inv.quiet start is one,
        inv.few start is,
      ),
    )

pub returns-then-len-many-clause-pauses : goal.returns-then-len-many-clause-pauses
returns-then-len-many-clause-pauses c start is =
    let i = c.args.system.now in
    let inv = c.events.invariant in
    let k = c.events.least.key in
    let e = c.events.least.event in
    let was = on_agenda inv.was c.events.self in
    let finds = subst (λ (b : Bool). Finds c.args.horizon inv.was b k e c.events.self.traffic.agenda) c.events-test.true inv.finds in
    let machine = c.take.new.self in
    let raised = c.in_ok-taken.taken.raised in
    let z = c.take.new.least in
    let comes = inv.comes start is in
    let d = comes.0 in
    let taken = c.in_ok-taken.ensures.taken d.state d.agenda (at_left i k d was c.events.self.traffic.agenda comes.2 finds.left) in
    let least = takes_least i c.args.limit d k e _ inv.was _ _ comes.2.agenda finds.found finds.least taken in
    let t : Taken = record { key = k; event = event_of i e; effect = taken.effect } in (
      after d t,
      comes.1 ++ t ∷ [],
      at_alike i machine (with_next raised z.key z.event machine.traffic.agenda) c.put_next-then-len-many.new.agenda c.in_ok-put_next-2.ensures.put (after d t).state (after d t).agenda taken.at,
      reaches_more i c.args.horizon c.args.limit start d comes.1 t comes.3 least (taken.stops ∙ c.in_default.is) finds.below,
      lines_more comes.1 t _ _ _ comes.4 taken.lines,
    )

pub returns-then-len-many-clause-ready : goal.returns-then-len-many-clause-ready
returns-then-len-many-clause-ready c =
    let i = c.args.system.now in
    let inv = c.events.invariant in
    let k = c.events.least.key in
    let e = c.events.least.event in
    let was = on_agenda inv.was c.events.self in
    let finds = subst (λ (b : Bool). Finds c.args.horizon inv.was b k e c.events.self.traffic.agenda) c.events-test.true inv.finds in
    let t = c.take.new.self in
    let raised = c.in_ok-taken.taken.raised in
    let z = c.take.new.least in
    (k.tick, machine_alike i t (with_next raised z.key z.event t.traffic.agenda) c.put_next-then-len-many.new.agenda c.in_ok-put_next-2.ensures.put c.args.limit k.tick (c.put_next-then-len-many.ensures.due ∙ sym (due_next raised z.key z.event t.traffic.agenda)) c.in_ok-taken.ensures.ready)

pub returns-then-len-many-clause-stands : goal.returns-then-len-many-clause-stands
unfolding returns-then-len-many-clause-pauses returns-then-len-many-clause-ready
returns-then-len-many-clause-stands c start is =
    let i = c.args.system.now in
    let inv = c.events.invariant in
    let k = c.events.least.key in
    let e = c.events.least.event in
    let was = on_agenda inv.was c.events.self in
    let finds = subst (λ (b : Bool). Finds c.args.horizon inv.was b k e c.events.self.traffic.agenda) c.events-test.true inv.finds in
    let comes = inv.comes start is in
    let d = comes.0 in
    let taken = c.in_ok-taken.ensures.taken d.state d.agenda (at_left i k d was c.events.self.traffic.agenda comes.2 finds.left) in
    let t : Taken = record { key = k; event = event_of i e; effect = taken.effect } in
    let pauses = returns-then-len-many-clause-pauses c start is in
    let new = on_agenda c.put_next-then-len-many.new.agenda c.take.new.self in
    let counted = c.take.new.self.traffic.outbox.lines.ok.0 in (
      pauses.1,
      record {
        chain = pauses.3.chain;
        at = subst (λ (x : Config). IsAt i x.state x.agenda new) (sym pauses.3.leads) pauses.2;
        lines = pauses.4;
      },
      pauses.3.below,
      (
        pauses.3.going,
        comes.1,
        t,
        refl,
        omega (arith, c.if-len-many.true, c.len.ensures, counted),
        λ one. inv.quiet start is one,
        (takes_good (system_of i) (sound_of i (record { accepted = c.facts.ensures.accepted; limits = c.facts.ensures.limits })) k c.args.limit d.state (event_of i e)
            (inv.ready.1.traffic.order.waits k e finds.found).event.here taken.effect taken.takes).lines,
        λ from le ready.
            let ahead = inv.ahead from le ready in
            later_more i c.args.limit from ahead.0 was new comes.1 t e (ahead.2 start is) finds.found (returns-then-len-many-clause-ready c).1,
        inv.few start is,
      ),
    )

pub returns-then-len-many-clause-sooner : goal.returns-then-len-many-clause-sooner
returns-then-len-many-clause-sooner c =
    let i = c.args.system.now in
    let inv = c.events.invariant in
    let k = c.events.least.key in
    let e = c.events.least.event in
    let was = on_agenda inv.was c.events.self in
    let finds = subst (λ (b : Bool). Finds c.args.horizon inv.was b k e c.events.self.traffic.agenda) c.events-test.true inv.finds in
    let spent = c.in_ok-taken.ensures.spent c.in_default.is in
    let past = inv.ready.1.past k.resource spent.before spent.was in
    let later = (inv.ready.1.traffic.order.waits k e finds.found).later in
    let falls = all_falls c.args.horizon c.args.limit k c.events.self.meters.items c.take.new.self.meters.items spent (omega (arith, past, later)) finds.below in
    let left = inv.left in
    omega (arith, falls, left)

-- ---- One event more

pub events-smaller : goal.events-smaller
events-smaller c =
    let i = c.args.system.now in
    let inv = c.events.invariant in
    let k = c.events.least.key in
    let e = c.events.least.event in
    let was = on_agenda inv.was c.events.self in
    let finds = subst (λ (b : Bool). Finds c.args.horizon inv.was b k e c.events.self.traffic.agenda) c.events-test.true inv.finds in
    let spent = c.in_ok-taken.ensures.spent c.in_default.is in
    let past = inv.ready.1.past k.resource spent.before spent.was in
    let later = (inv.ready.1.traffic.order.waits k e finds.found).later in
    let falls = all_falls c.args.horizon c.args.limit k c.events.self.meters.items c.take.new.self.meters.items spent (omega (arith, past, later)) finds.below in
    falls

pub events-preserved : goal.events-preserved
events-preserved c =
    let i = c.args.system.now in
    let inv = c.events.invariant in
    let k = c.events.least.key in
    let e = c.events.least.event in
    let was = on_agenda inv.was c.events.self in
    let finds = subst (λ (b : Bool). Finds c.args.horizon inv.was b k e c.events.self.traffic.agenda) c.events-test.true inv.finds in
    let spent = c.in_ok-taken.ensures.spent c.in_default.is in
    let past = inv.ready.1.past k.resource spent.before spent.was in
    let later = (inv.ready.1.traffic.order.waits k e finds.found).later in
    let falls = all_falls c.args.horizon c.args.limit k c.events.self.meters.items c.take.new.self.meters.items spent (omega (arith, past, later)) finds.below in
    let left = inv.left in
    let going = c.in_default.is in
    let machine = c.take.new.self in
    let raised = c.in_ok-taken.taken.raised in
    let z = c.take.new.least in
    let s = inv.represents.0 in
    let standing = c.in_ok-taken.ensures.taken s.state s.agenda (at_left i k s was c.events.self.traffic.agenda inv.represents.1 finds.left) in
    record {
      was = with_next raised z.key z.event machine.traffic.agenda;
      finds = c.in_ok-found.ensures.finds;
      due = c.in_ok-found.ensures.due ∙ sym (due_next raised z.key z.event machine.traffic.agenda);
      ready = (k.tick, c.in_ok-taken.ensures.ready);
      represents = (after s (record { key = k; event = event_of i e; effect = standing.effect }), standing.at);
      comes = λ start is.
          let comes = inv.comes start is in
          let d = comes.0 in
          let taken = c.in_ok-taken.ensures.taken d.state d.agenda (at_left i k d was c.events.self.traffic.agenda comes.2 finds.left) in
          let least = takes_least i c.args.limit d k e _ inv.was _ _ comes.2.agenda finds.found finds.least taken in
          let t : Taken = record { key = k; event = event_of i e; effect = taken.effect } in (
            after d t,
            comes.1 ++ t ∷ [],
            taken.at,
            reaches_more i c.args.horizon c.args.limit start d comes.1 t comes.3 least (taken.stops ∙ going) finds.below,
            lines_more comes.1 t _ _ _ comes.4 taken.lines,
          );
      quiet = λ start is one.
          let comes = inv.comes start is in
          let d = comes.0 in
          let taken = c.in_ok-taken.ensures.taken d.state d.agenda (at_left i k d was c.events.self.traffic.agenda comes.2 finds.left) in
          let t : Taken = record { key = k; event = event_of i e; effect = taken.effect } in
          let counted = machine.traffic.outbox.lines.ok.0 in
          none_came (system_of i) _ machine.traffic.outbox.lines.items _ (omega (arith, c.if-len-many.false, c.len.ensures, counted, one)) (lines_more comes.1 t _ _ _ comes.4 taken.lines);
      few = λ start is some.
          let comes = inv.comes start is in
          let d = comes.0 in
          let taken = c.in_ok-taken.ensures.taken d.state d.agenda (at_left i k d was c.events.self.traffic.agenda comes.2 finds.left) in
          let t : Taken = record { key = k; event = event_of i e; effect = taken.effect } in
          let counted = machine.traffic.outbox.lines.ok.0 in
          let came = count_came (system_of i) c.args.self.now.traffic.outbox.lines.items machine.traffic.outbox.lines.items (lines_of (comes.1 ++ t ∷ [])) (lines_more comes.1 t _ _ _ comes.4 taken.lines) in
          omega (arith, c.if-len-many.false, c.len.ensures, counted, came);
      ahead = λ from le ready.
          let ahead = inv.ahead from le ready in
          let below = finds.below in (
            k.tick,
            omega (arith, below),
            λ start is.
                let comes = inv.comes start is in
                let d = comes.0 in
                let taken = c.in_ok-taken.ensures.taken d.state d.agenda (at_left i k d was c.events.self.traffic.agenda comes.2 finds.left) in
                later_more i c.args.limit from ahead.0 was (on_agenda (with_next raised z.key z.event machine.traffic.agenda) machine) comes.1
                (record { key = k; event = event_of i e; effect = taken.effect }) e (ahead.2 start is) finds.found c.in_ok-taken.ensures.ready,
          );
      left = omega (arith, falls, left);
    }

-- ---- Nothing waits below the horizon

pub returns-clause-pauses : goal.returns-clause-pauses
returns-clause-pauses c start is =
    let inv = c.events.invariant in
    let comes = inv.comes start is in
    let finds = subst (λ (b : Bool). Finds c.args.horizon inv.was b c.events.least.key c.events.least.event c.events.self.traffic.agenda) c.events-test.false inv.finds in
    completes_after c.args.system.now c.args.horizon c.args.limit start comes.0 comes.1 _ c.events.self.traffic.outbox.lines.items _ _ comes.3 comes.4
    (completes_rest c.args.system.now c.args.horizon c.args.limit comes.0 inv.was c.events.self.traffic.outbox.lines.items comes.2.agenda finds.none)

pub returns-clause-stands : goal.returns-clause-stands
returns-clause-stands c start is =
    let i = c.args.system.now in
    let inv = c.events.invariant in
    let comes = inv.comes start is in
    let d = comes.0 in
    let finds = subst (λ (b : Bool). Finds c.args.horizon inv.was b c.events.least.key c.events.least.event c.events.self.traffic.agenda) c.events-test.false inv.finds in (
      comes.1,
      record {
        chain = comes.3.chain;
        at = subst (λ (x : Config). IsAt i x.state x.agenda c.events.self) (sym comes.3.leads)
            (at_alike i c.events.self inv.was c.events.self.traffic.agenda finds.kept d.state d.agenda comes.2);
        lines = comes.4;
      },
      comes.3.below,
      (
        comes.3.going,
        subst (λ (x : Config). NoneBelow x.agenda c.args.horizon) (sym comes.3.leads) (λ j lt. comes.2.agenda j ∙ ap (option_map (event_of i)) (finds.none j lt)),
        λ one. inv.quiet start is one,
        λ from le ready.
            let ahead = inv.ahead from le ready in
            let there = ahead.2 start is in (
              ahead.0,
              ahead.1,
              record {
                later = there.later;
                ready = machine_alike i c.events.self inv.was c.events.self.traffic.agenda finds.kept c.args.limit ahead.0 inv.due there.ready;
                before = there.before;
              },
            ),
        inv.few start is,
      ),
    )

pub returns-clause-ready : goal.returns-clause-ready
returns-clause-ready c =
    let inv = c.events.invariant in
    let finds = subst (λ (b : Bool). Finds c.args.horizon inv.was b c.events.least.key c.events.least.event c.events.self.traffic.agenda) c.events-test.false inv.finds in
    (inv.ready.0, machine_alike c.args.system.now c.events.self inv.was c.events.self.traffic.agenda finds.kept c.args.limit inv.ready.0 inv.due inv.ready.1)

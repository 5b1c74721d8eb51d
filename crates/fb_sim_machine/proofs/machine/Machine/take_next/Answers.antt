use Rattle.fb_types.proofs.Common.{Bool, refl, ◌∙◌, subst, ap, arith, option_map, without}
use Rattle.fb_net.specs.Events.{event_of}
use Rattle.fb_resource.specs.Takings.{Finds}
use Rattle.fb_resource.proofs.lemmas.Finding.{finds_taken}
use Rattle.fb_sim_machine.proofs.lemmas.AgendaIs.{at_left, machine_left}
use Rattle.fb_sim_machine.proofs.lemmas.Nexts.{at_alike, machine_alike}
use Rattle.fb_sim_machine.proofs.lemmas.OneStep.{one_gone}
use Rattle.fb_sim_machine.proofs.machine.Machine.take_next.Goals as goal

-- ---- Nothing waits below the horizon

pub returns-then-not-take_least_into : goal.returns-then-not-take_least_into
returns-then-not-take_least_into c d at =
    let i = c.args.system.now in
    let m = c.args.self.now in
    let z = c.take_least_into.new.least_event in
    let is = c.take_least_into.ensures in
    let now = c.take_least_into.new.self in
    let finds = subst (λ (b : Bool). Finds c.args.horizon m.traffic.agenda b z.key z.event now) c.if-not-take_least_into.true
    (finds_taken c.args.horizon m.traffic.agenda now c.take_least_into.result z.key z.event is.found is.below is.least is.left is.none is.kept) in (
      λ j lt. at.agenda j ∙ ap (option_map (event_of i)) (finds.none j lt),
      at_alike i m m.traffic.agenda now finds.kept d.state d.agenda at,
      refl,
      λ from ready. machine_alike i m m.traffic.agenda now finds.kept c.args.limit from is.due ready,
    )

-- ---- The event in `Least`

pub take_event-requires-clause-ready : goal.take_event-requires-clause-ready
take_event-requires-clause-ready c =
    let i = c.args.system.now in
    let m = c.args.self.now in
    let z = c.take_least_into.new.least_event in
    let is = c.take_least_into.ensures in
    let now = c.take_least_into.new.self in
    let finds = subst (λ (b : Bool). Finds c.args.horizon m.traffic.agenda b z.key z.event now) c.if-not-take_least_into.false
    (finds_taken c.args.horizon m.traffic.agenda now c.take_least_into.result z.key z.event is.found is.below is.least is.left is.none is.kept) in
    machine_left i c.args.limit c.requires.ready.0 z.key z.event m now c.requires.ready.1 finds.left finds.found finds.least is.due

pub take_event-requires-clause-represents : goal.take_event-requires-clause-represents
take_event-requires-clause-represents c =
    let i = c.args.system.now in
    let m = c.args.self.now in
    let z = c.take_least_into.new.least_event in
    let is = c.take_least_into.ensures in
    let now = c.take_least_into.new.self in
    let finds = subst (λ (b : Bool). Finds c.args.horizon m.traffic.agenda b z.key z.event now) c.if-not-take_least_into.false
    (finds_taken c.args.horizon m.traffic.agenda now c.take_least_into.result z.key z.event is.found is.below is.least is.left is.none is.kept) in
    let represents = c.requires.represents in
    (represents.0.state, without z.key represents.0.agenda, at_left i z.key represents.0 m now represents.1 finds.left)

pub take_event-requires-clause-event : goal.take_event-requires-clause-event
take_event-requires-clause-event c =
    let i = c.args.system.now in
    let m = c.args.self.now in
    let z = c.take_least_into.new.least_event in
    let is = c.take_least_into.ensures in
    let now = c.take_least_into.new.self in
    let finds = subst (λ (b : Bool). Finds c.args.horizon m.traffic.agenda b z.key z.event now) c.if-not-take_least_into.false
    (finds_taken c.args.horizon m.traffic.agenda now c.take_least_into.result z.key z.event is.found is.below is.least is.left is.none is.kept) in
    (c.requires.ready.1.traffic.order.waits z.key z.event finds.found).event

pub take_event-requires-clause-own : goal.take_event-requires-clause-own
take_event-requires-clause-own c =
    let i = c.args.system.now in
    let m = c.args.self.now in
    let z = c.take_least_into.new.least_event in
    let is = c.take_least_into.ensures in
    let now = c.take_least_into.new.self in
    let finds = subst (λ (b : Bool). Finds c.args.horizon m.traffic.agenda b z.key z.event now) c.if-not-take_least_into.false
    (finds_taken c.args.horizon m.traffic.agenda now c.take_least_into.result z.key z.event is.found is.below is.least is.left is.none is.kept) in
    (c.requires.ready.1.traffic.order.waits z.key z.event finds.found).own

pub take_event-requires-clause-typed : goal.take_event-requires-clause-typed
take_event-requires-clause-typed c =
    let i = c.args.system.now in
    let m = c.args.self.now in
    let z = c.take_least_into.new.least_event in
    let is = c.take_least_into.ensures in
    let now = c.take_least_into.new.self in
    let finds = subst (λ (b : Bool). Finds c.args.horizon m.traffic.agenda b z.key z.event now) c.if-not-take_least_into.false
    (finds_taken c.args.horizon m.traffic.agenda now c.take_least_into.result z.key z.event is.found is.below is.least is.left is.none is.kept) in
    (c.requires.ready.1.traffic.order.waits z.key z.event finds.found).typed

pub take_event-requires-clause-named : goal.take_event-requires-clause-named
take_event-requires-clause-named c =
    let i = c.args.system.now in
    let m = c.args.self.now in
    let z = c.take_least_into.new.least_event in
    let is = c.take_least_into.ensures in
    let now = c.take_least_into.new.self in
    let finds = subst (λ (b : Bool). Finds c.args.horizon m.traffic.agenda b z.key z.event now) c.if-not-take_least_into.false
    (finds_taken c.args.horizon m.traffic.agenda now c.take_least_into.result z.key z.event is.found is.below is.least is.left is.none is.kept) in
    (c.requires.ready.1.traffic.order.waits z.key z.event finds.found).resource

pub take_event-requires-clause-early : goal.take_event-requires-clause-early
take_event-requires-clause-early c =
    let i = c.args.system.now in
    let m = c.args.self.now in
    let z = c.take_least_into.new.least_event in
    let is = c.take_least_into.ensures in
    let now = c.take_least_into.new.self in
    let finds = subst (λ (b : Bool). Finds c.args.horizon m.traffic.agenda b z.key z.event now) c.if-not-take_least_into.false
    (finds_taken c.args.horizon m.traffic.agenda now c.take_least_into.result z.key z.event is.found is.below is.least is.left is.none is.kept) in
    let below = finds.below in
    let most = c.requires.early in
    omega (arith, below, most)

-- ---- It was taken

pub returns-in-Some : goal.returns-in-Some
returns-in-Some c d at =
    let i = c.args.system.now in
    let m = c.args.self.now in
    let z = c.take_least_into.new.least_event in
    let is = c.take_least_into.ensures in
    let now = c.take_least_into.new.self in
    let finds = subst (λ (b : Bool). Finds c.args.horizon m.traffic.agenda b z.key z.event now) c.if-not-take_least_into.false
    (finds_taken c.args.horizon m.traffic.agenda now c.take_least_into.result z.key z.event is.found is.below is.least is.left is.none is.kept) in
    let t = c.in_ok-reason.ensures.taken d.state d.agenda (at_left i z.key d m now at finds.left) in (
      record { key = z.key; event = event_of i z.event; effect = t.effect },
      one_gone i c.args.limit d z.key z.event m c.take_event.new.self now _ at finds.found finds.least t,
      refl,
      finds.below,
      refl,
      t.stops ∙ c.in-Some.is,
      (c.requires.ready.1.traffic.order.waits z.key z.event finds.found).resource,
      λ from ready. ((ready.traffic.order.waits z.key z.event finds.found).later, c.in_ok-reason.ensures.ready),
    )

pub returns : goal.returns
returns c d at =
    let i = c.args.system.now in
    let m = c.args.self.now in
    let z = c.take_least_into.new.least_event in
    let is = c.take_least_into.ensures in
    let now = c.take_least_into.new.self in
    let finds = subst (λ (b : Bool). Finds c.args.horizon m.traffic.agenda b z.key z.event now) c.if-not-take_least_into.false
    (finds_taken c.args.horizon m.traffic.agenda now c.take_least_into.result z.key z.event is.found is.below is.least is.left is.none is.kept) in
    let t = c.in_ok-reason.ensures.taken d.state d.agenda (at_left i z.key d m now at finds.left) in (
      record { key = z.key; event = event_of i z.event; effect = t.effect },
      one_gone i c.args.limit d z.key z.event m c.take_event.new.self now _ at finds.found finds.least t,
      refl,
      finds.below,
      t.stops ∙ c.in-None.is,
      λ from ready. ((ready.traffic.order.waits z.key z.event finds.found).later, c.in_ok-reason.ensures.ready),
    )

use Rattle.fb_resource.proofs.lemmas.Common.{◌≡◌, Some, All, length, refl, sym, ap, subst, ◌∙◌, arith, system_of, local_key, begun, world_of, Key, path_of, Event, event_of, IsMetered, meter_of, AreReady, IsTakenHere, with_event, Traffic, TickCounts}
use Rattle.fb_types.specs.declared.value.Reason.TheVariants.{Steps}
use Rattle.fb_types.specs.declared.run.Event.TheVariants.{Local}
use Rattle.fb_net.specs.Outs.{IsOut}
use Rattle.fb_net.specs.Events.{IsEventIn}
use Rattle.fb_types.specs.OfSystem.{IsResource}
use Rattle.fb_laws.proofs.lemmas.typing.Accepted.{accepted_typed}
use Rattle.fb_resource.specs.Counts.{before_step}
use Rattle.fb_resource.proofs.lemmas.Alone.{came_ended, put_out}
use Rattle.fb_resource.proofs.lemmas.Lone.{lone_ready, lone_settled, raised_lone}
use Rattle.fb_resource.proofs.lemmas.ReadyIs.{came_good, metered_after}
use Rattle.fb_resource.proofs.lemmas.TakenIs.{taken_none, taken_one}
use Rattle.fb_resource.proofs.one_taking.take.Goals as goal

pub returns-then-not-step-clause-taken : goal.returns-then-not-step-clause-taken
returns-then-not-step-clause-taken c s from le here counts =
    let i = c.args.system.now in
    let k = c.args.least.now.key in
    let e = event_of i c.args.least.now.event in
    let q = c.args.traffic.now in
    let none = taken_none i c.args.limit s k e (begun c.args.limit k.tick (meter_of c.args.counts.now)) from c.args.tree.now c.args.counts.now q
    (here.meter c.args.limit k.tick le) c.if-not-step.ensures.none here counts in
    subst (λ (m : TickCounts). IsTakenHere i c.args.limit s k e (Some Steps) from c.args.tree.now m q q) (sym c.if-not-step.ensures.kept) none

pub returns-then-not-step-clause-traffic : goal.returns-then-not-step-clause-traffic
returns-then-not-step-clause-traffic c = c.requires.traffic

pub returns-then-not-step-clause-counts : goal.returns-then-not-step-clause-counts
returns-then-not-step-clause-counts c = subst (IsMetered c.args.limit) (sym c.if-not-step.ensures.kept) c.requires.counts

pub deliver-end-requires : goal.deliver-end-requires
deliver-end-requires c =
    let i = c.args.system.now in
    let l = c.args.least.now in
    let represents = c.requires.represents in
    let here = sym c.requires.tree in
    record {
      here = here;
      event = subst (λ n. IsEventIn i n l.event) here c.requires.event;
      named = subst (λ n. IsResource i n) here c.requires.named;
      early = c.requires.early;
      belongs = (world_of represents.0 l.key.resource, represents.1.blocks, represents.1.typed l.key.resource);
      typed = c.requires.typed;
    }

pub settle-requires-clause-may : goal.settle-requires-clause-may
settle-requires-clause-may c =
    let came = came_ended c.args.system.now c.args.least.now.key c.args.least.now.event c.args.tree.now c.args.traffic.now.outbox c.step.new.self.meter.left c.in_ok-stop.stop c.deliver-end.result
    c.deliver-end.new.self c.deliver-end.new.meter.left c.deliver-end.new.outbox c.requires.traffic.none c.requires.traffic.keeps
    c.in_ok-stop.ensures c.deliver-end.ensures.taken in
    let put = put_out c.args.system.now c.args.tree.now c.args.traffic.now.outbox c.deliver-end.new.self c.deliver-end.new.outbox c.in_ok-stop.stop c.deliver-end.result
    c.in_ok-stop.ensures c.requires.traffic.lines c.requires.traffic.none c.deliver-end.ensures.outs in
    let i = c.args.system.now in
    let k = c.args.least.now.key in
    let had = c.requires.traffic in
    let here = c.deliver-end.ensures.resource ∙ c.requires.tree in
    let represents = c.requires.represents in
    let w = world_of represents.0 k.resource in
    let good = came_good i k c.args.least.now.event _ _ _ c.deliver-end.new.self c.deliver-end.new.outbox _ w c.facts.ensures.accepted c.facts.ensures.limits c.requires.event.here (represents.1.typed k.resource) c.requires.typed
    (came w represents.1.blocks) (subst (λ n. All (IsOut (system_of i) n) c.deliver-end.new.outbox.outs.items) here put.outs) in
    record {
      event = c.requires.event;
      named = c.requires.named;
      early = c.requires.early;
      order = had.order;
      due = had.due;
      counted = had.counted;
      mail = had.mail;
      later = good.1;
      outs = good.0;
      lines = put.lines;
    }

pub returns-clause-taken : goal.returns-clause-taken
returns-clause-taken c s from le here counts =
    let came = came_ended c.args.system.now c.args.least.now.key c.args.least.now.event c.args.tree.now c.args.traffic.now.outbox c.step.new.self.meter.left c.in_ok-stop.stop c.deliver-end.result
    c.deliver-end.new.self c.deliver-end.new.meter.left c.deliver-end.new.outbox c.requires.traffic.none c.requires.traffic.keeps
    c.in_ok-stop.ensures c.deliver-end.ensures.taken in
    let i = c.args.system.now in
    let k = c.args.least.now.key in
    let old = c.args.traffic.now in
    let mid : Traffic = record old { outbox = c.deliver-end.new.outbox } in
    taken_one i c.args.limit s k c.args.least.now.event (before_step c.step.new.self) _ _ _ old mid c.settle.new.traffic
    from c.args.tree.now c.args.counts.now c.deliver-end.new.self c.deliver-end.new.outbox
    (accepted_typed i c.facts.ensures.accepted).system c.requires.typed
    here counts (here.meter c.args.limit k.tick le ∙ sym c.if-not-step.ensures.used) refl
    (came (world_of s k.resource) here.blocks) refl c.in_ok-settle.ensures.settled c.if-not-step.ensures.tick c.in_ok-settle.ensures.lines

pub returns-clause-traffic : goal.returns-clause-traffic
returns-clause-traffic c = c.in_ok-settle.ensures.ready

pub returns-clause-later : goal.returns-clause-later
returns-clause-later c = c.in_ok-settle.ensures.later

pub returns-clause-counts : goal.returns-clause-counts
returns-clause-counts c =
    metered_after c.args.limit (before_step c.step.new.self) _ _ c.if-not-step.ensures.metered refl c.deliver-end.ensures.fewer c.in_ok-settle.ensures.few

pub returns-clause-spent : goal.returns-clause-spent
returns-clause-spent c going =
    let left = ap (λ m. m.left) c.if-not-step.ensures.used in
    let fewer = c.deliver-end.ensures.fewer in
    (c.if-not-step.ensures.tick, omega (arith, left, fewer))

-- ---- Where one local event was put out

pub count_lone-requires-clause-alone : goal.count_lone-requires-clause-alone
count_lone-requires-clause-alone c = ap length c.in-Some.ensures.alone

pub count_lone-requires-clause-keeps : goal.count_lone-requires-clause-keeps
count_lone-requires-clause-keeps c = c.in-Some.ensures.keeps

pub returns-in-Some-clause-taken : goal.returns-in-Some-clause-taken
returns-in-Some-clause-taken c s from le here counts =
    let came = came_ended c.args.system.now c.args.least.now.key c.args.least.now.event c.args.tree.now c.args.traffic.now.outbox c.step.new.self.meter.left c.in_ok-stop.stop c.deliver-end.result
    c.deliver-end.new.self c.deliver-end.new.meter.left c.deliver-end.new.outbox c.requires.traffic.none c.requires.traffic.keeps
    c.in_ok-stop.ensures c.deliver-end.ensures.taken in
    let i = c.args.system.now in
    let k = c.args.least.now.key in
    let old = c.args.traffic.now in
    let x = c.deliver-end.new.outbox in
    let y = c.count_lone.new.outbox in
    let t = c.in-Some.target.now in
    let m = before_step c.step.new.self in
    let z = c.follow.new.self in
    let a = with_event (local_key k.tick k.resource m.locals) (Local t) old.agenda in
    let mid : Traffic = record old { outbox = x } in
    let new : Traffic = record old { agenda = a; outbox = y } in
    let lone = raised_lone k t old.agenda m.locals c.count_lone.new.locals x y c.in-Some.ensures.alone c.in-Some.ensures.keeps c.count_lone.ensures.counted c.count_lone.ensures.emptied in
    let n : TickCounts = record { tick = c.step.new.self.tick; meter = c.deliver-end.new.meter; locals = c.count_lone.new.locals } in
    subst (λ (j : Key). IsTakenHere i c.args.limit s k (event_of i c.args.least.now.event) c.in_ok-stop.stop from c.deliver-end.new.self n old
    (record old { agenda = with_event j z.event old.agenda; outbox = y })) (sym c.follow.ensures.key)
    (subst (λ (e : Event). IsTakenHere i c.args.limit s k (event_of i c.args.least.now.event) c.in_ok-stop.stop from c.deliver-end.new.self n old
    (record old { agenda = with_event (local_key k.tick k.resource m.locals) e old.agenda; outbox = y })) (sym c.follow.ensures.event)
    (taken_one i c.args.limit s k c.args.least.now.event m n _ _ old mid new
    from c.args.tree.now c.args.counts.now c.deliver-end.new.self x
    (accepted_typed i c.facts.ensures.accepted).system c.requires.typed
    here counts (here.meter c.args.limit k.tick le ∙ sym c.if-not-step.ensures.used) refl
    (came (world_of s k.resource) here.blocks) refl
    (lone_settled i k t old.agenda a m.locals c.count_lone.new.locals x y lone old.sent old.mail (path_of (event_of i c.args.least.now.event)))
    c.if-not-step.ensures.tick c.count_lone.ensures.emptied.lines))

pub returns-in-Some-clause-traffic : goal.returns-in-Some-clause-traffic
returns-in-Some-clause-traffic c =
    let came = came_ended c.args.system.now c.args.least.now.key c.args.least.now.event c.args.tree.now c.args.traffic.now.outbox c.step.new.self.meter.left c.in_ok-stop.stop c.deliver-end.result
    c.deliver-end.new.self c.deliver-end.new.meter.left c.deliver-end.new.outbox c.requires.traffic.none c.requires.traffic.keeps
    c.in_ok-stop.ensures c.deliver-end.ensures.taken in
    let put = put_out c.args.system.now c.args.tree.now c.args.traffic.now.outbox c.deliver-end.new.self c.deliver-end.new.outbox c.in_ok-stop.stop c.deliver-end.result
    c.in_ok-stop.ensures c.requires.traffic.lines c.requires.traffic.none c.deliver-end.ensures.outs in
    let i = c.args.system.now in
    let k = c.args.least.now.key in
    let old = c.args.traffic.now in
    let x = c.deliver-end.new.outbox in
    let y = c.count_lone.new.outbox in
    let t = c.in-Some.target.now in
    let n = c.step.new.self.locals in
    let z = c.follow.new.self in
    let here = c.deliver-end.ensures.resource ∙ c.requires.tree in
    let represents = c.requires.represents in
    let w = world_of represents.0 k.resource in
    let good = came_good i k c.args.least.now.event _ _ _ c.deliver-end.new.self x _ w c.facts.ensures.accepted c.facts.ensures.limits c.requires.event.here (represents.1.typed k.resource) c.requires.typed
    (came w represents.1.blocks) (subst (λ n. All (IsOut (system_of i) n) x.outs.items) here put.outs) in
    let lone = raised_lone k t old.agenda n c.count_lone.new.locals x y c.in-Some.ensures.alone c.in-Some.ensures.keeps c.count_lone.ensures.counted c.count_lone.ensures.emptied in
    subst (λ (j : Key). AreReady i k.tick (record old { agenda = with_event j z.event old.agenda; outbox = y })) (sym c.follow.ensures.key)
    (subst (λ (e : Event). AreReady i k.tick (record old { agenda = with_event (local_key k.tick k.resource n) e old.agenda; outbox = y })) (sym c.follow.ensures.event)
    (lone_ready i k t old.agenda (with_event (local_key k.tick k.resource n) (Local t) old.agenda) n c.count_lone.new.locals x y lone old.sent old.mail
    old.outbox c.requires.named good.0 put.lines c.requires.traffic))

pub returns-in-Some-clause-counts : goal.returns-in-Some-clause-counts
returns-in-Some-clause-counts c =
    let counted = c.count_lone.ensures.counted in
    metered_after c.args.limit (before_step c.step.new.self) _ _ c.if-not-step.ensures.metered refl c.deliver-end.ensures.fewer (omega (arith, counted))

pub returns-in-Some-clause-spent : goal.returns-in-Some-clause-spent
returns-in-Some-clause-spent c going =
    let left = ap (λ m. m.left) c.if-not-step.ensures.used in
    let fewer = c.deliver-end.ensures.fewer in
    (c.if-not-step.ensures.tick, omega (arith, left, fewer))

pub returns-in-Some-clause-raised : goal.returns-in-Some-clause-raised
returns-in-Some-clause-raised c =
    let k = c.args.least.now.key in
    let is = c.follow.ensures in
    let n = c.step.new.self.locals in
    let same : c.follow.new.self.key ≡ local_key c.follow.new.self.key.tick c.follow.new.self.key.resource n =
    subst (λ (j : Key). j ≡ local_key j.tick j.resource n) (sym is.key) refl in
    record { number = n; target = c.in-Some.target.now; key = same; event = is.event }

pub returns-in-Some-clause-alone : goal.returns-in-Some-clause-alone
returns-in-Some-clause-alone c = (refl, refl)

pub returns-in-Some-clause-moment : goal.returns-in-Some-clause-moment
returns-in-Some-clause-moment c = (ap (λ (j : Key). j.tick) c.follow.ensures.key, ap (λ (j : Key). j.resource) c.follow.ensures.key)

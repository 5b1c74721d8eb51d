use Rattle.fb_types.proofs.Common.{◌∙◌, ℕ, refl, sym, subst, true, false, arith, system_of, without, agenda_after}
use Rattle.fb_net.specs.Events.{event_of}
use Rattle.fb_stop.specs.Spent.{Charges, ChargesEvent}
use Rattle.fb_stop.proofs.lemmas.runs.Spending.{counts_at, has_spent, instance_there, left_as}
use Rattle.fb_stop.proofs.spent.step.Goals as goal

pub take_event-requires-clause-ready : goal.take_event-requires-clause-ready
take_event-requires-clause-ready c = c.clear_lines.ensures.ready c.args.system.now c.args.limit c.args.least.now.key.tick c.requires.ready

pub take_event-requires-clause-represents : goal.take_event-requires-clause-represents
take_event-requires-clause-represents c =
    let r = c.requires.represents in
    (r.0, without c.args.least.now.key r.1, c.clear_lines.ensures.at c.args.system.now r.0 (without c.args.least.now.key r.1) r.2)

pub site_of-at-requires : goal.site_of-at-requires
site_of-at-requires c = (c.args.least.now.key.resource, c.requires.event)

pub charge-requires : goal.charge-requires
charge-requires c =
    let i = c.args.system.now in
    let there = instance_there (system_of i) (event_of i c.args.least.now.event) c.site_of-at.result c.site_of-at.ensures in
    let is = c.instance_of.ensures in
    let counted = c.requires.counted in
    omega (arith, there, is, counted)

pub returns-then-is_there-clause-spent : goal.returns-then-is_there-clause-spent
returns-then-is_there-clause-spent c s a at =
    let i = c.args.system.now in
    let k = c.args.least.now.key in
    let limit = c.args.limit in
    let e = event_of i c.args.least.now.event in
    let old = c.clear_lines.new.self in
    let new = c.take_event.new.self in
    let cleared = c.clear_lines.ensures.at i s (without k a) at in
    let ready = c.clear_lines.ensures.ready i limit k.tick c.requires.ready in
    let t = c.in_ok-stop.ensures.taken s a cleared in
    has_spent i limit c.args.moment s a k e c.in_ok-stop.stop old new t c.left_at-before.result c.left_at-after.result c.args.spent.now.items c.charge.new.spent.items
    (left_as i s (without k a) limit k old c.left_at-before.result ready cleared c.requires.named
    (counts_at old.meters.items k.resource limit k.tick c.index.result.now c.left_at-before.result (omega (arith, ready.meters_counted, c.requires.named)) c.index.ensures c.left_at-before.ensures))
    (left_as i t.effect.state (agenda_after k a t.effect) limit k new c.left_at-after.result c.in_ok-stop.ensures.ready t.at c.requires.named
    (counts_at new.meters.items k.resource limit k.tick c.index-2.result.now c.left_at-after.result (omega (arith, c.in_ok-stop.ensures.ready.meters_counted, c.requires.named)) c.index-2.ensures c.left_at-after.ensures))
    true (sym c.is_there.ensures ∙ c.if-is_there.true)
    (subst (λ (n : ℕ). ChargesEvent (system_of i) e n c.args.spent.now.items c.charge.new.spent.items) c.saturating_sub.ensures
    (c.site_of-at.result, c.site_of-at.ensures, subst (λ (n : ℕ). Charges n c.saturating_sub.result c.args.spent.now.items c.charge.new.spent.items) c.instance_of.ensures c.charge.ensures))

pub returns-else-is_there-clause-spent : goal.returns-else-is_there-clause-spent
returns-else-is_there-clause-spent c s a at =
    let i = c.args.system.now in
    let k = c.args.least.now.key in
    let limit = c.args.limit in
    let e = event_of i c.args.least.now.event in
    let old = c.clear_lines.new.self in
    let new = c.take_event.new.self in
    let cleared = c.clear_lines.ensures.at i s (without k a) at in
    let ready = c.clear_lines.ensures.ready i limit k.tick c.requires.ready in
    let t = c.in_ok-stop.ensures.taken s a cleared in
    has_spent i limit c.args.moment s a k e c.in_ok-stop.stop old new t c.left_at-before.result c.left_at-after.result c.args.spent.now.items c.args.spent.now.items
    (left_as i s (without k a) limit k old c.left_at-before.result ready cleared c.requires.named
    (counts_at old.meters.items k.resource limit k.tick c.index.result.now c.left_at-before.result (omega (arith, ready.meters_counted, c.requires.named)) c.index.ensures c.left_at-before.ensures))
    (left_as i t.effect.state (agenda_after k a t.effect) limit k new c.left_at-after.result c.in_ok-stop.ensures.ready t.at c.requires.named
    (counts_at new.meters.items k.resource limit k.tick c.index-2.result.now c.left_at-after.result (omega (arith, c.in_ok-stop.ensures.ready.meters_counted, c.requires.named)) c.index-2.ensures c.left_at-after.ensures))
    false (sym c.is_there.ensures ∙ c.if-is_there.false) refl

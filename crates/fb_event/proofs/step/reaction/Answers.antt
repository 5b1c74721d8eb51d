use Rattle.fb_types.proofs.Common.{Bool, [], ◌∷◌, refl, ap, ◌∙◌, inl, inr, if◌then◌else◌}
use Rattle.fb_types.specs.declared.event_kind.EventKind.TheVariants as kind
use Rattle.fb_event.proofs.lemmas.Arms.{at_kind, cycle_does, delay_does, merge_does, permit_does, range_at, restart_does, split_does}
use Rattle.fb_event.proofs.step.reaction.Goals as goal

pub returns-in-Restart : goal.returns-in-Restart
returns-in-Restart c =
    let m = c.args.memory.now in
    let s = c.silent in
    let is = c.in-Restart.is in
    at_kind c.args.kind kind.Restart m m c.args.event c.args.tick c.args.input s.result is
    (restart_does m c.args.event c.args.tick c.args.input s.result (range_at c.args.kind kind.Restart m is c.requires.running) s.ensures.emits s.ensures.ask)

pub returns-in-Split : goal.returns-in-Split
returns-in-Split c =
    let m = c.args.memory.now in
    let s = c.emitting in
    let is = c.in-Split.is in
    at_kind c.args.kind kind.Split m m c.args.event c.args.tick c.args.input s.result is
    (split_does m c.args.event c.args.tick c.args.input s.result (range_at c.args.kind kind.Split m is c.requires.running) s.ensures.emits s.ensures.ask)

pub returns-in-Merge : goal.returns-in-Merge
returns-in-Merge c =
    let m = c.args.memory.now in
    let s = c.emitting-in-Merge in
    let is = c.in-Merge.is in
    at_kind c.args.kind kind.Merge m m c.args.event c.args.tick c.args.input s.result is
    (merge_does m c.args.event c.args.tick c.args.input s.result (range_at c.args.kind kind.Merge m is c.requires.running) s.ensures.emits s.ensures.ask)

pub returns-in-Rendezvous : goal.returns-in-Rendezvous
returns-in-Rendezvous c =
    let r = c.rendezvous-after in
    at_kind c.args.kind kind.Rendezvous c.args.memory.now r.result.0 c.args.event c.args.tick c.args.input r.result.1 c.in-Rendezvous.is r.ensures

pub returns-in-Permit : goal.returns-in-Permit
returns-in-Permit c =
    let m = c.args.memory.now in
    let s = c.emitting_if in
    let is = c.in-Permit.is in
    at_kind c.args.kind kind.Permit m m c.args.event c.args.tick c.args.input s.result is
    (permit_does m c.args.event c.args.tick c.args.input s.result (range_at c.args.kind kind.Permit m is c.requires.running) (s.ensures.emits ∙ ap (λ (b : Bool). if b then 0 ∷ [] else []) c.is_true.ensures) s.ensures.ask)

pub returns-in-Delay : goal.returns-in-Delay
returns-in-Delay c =
    let m = c.args.memory.now in
    let r = c.timer_after-after in
    elim c.in-Delay.is [
      | inl is ↦
          at_kind c.args.kind kind.Delay m r.result.0 c.args.event c.args.tick c.args.input _ is
          (delay_does m r.result.0 c.args.event c.args.tick c.args.input _ r.result.1 r.ensures c.silent-in-Delay.ensures.emits refl)
      | inr is ↦
          at_kind c.args.kind kind.Cycle m r.result.0 c.args.event c.args.tick c.args.input _ is
          (cycle_does m r.result.0 c.args.event c.args.tick c.args.input _ r.result.1 r.ensures c.silent-in-Delay.ensures.emits refl)
    ]

pub returns-in-CountUp : goal.returns-in-CountUp
returns-in-CountUp c =
    let r = c.count_up-after in
    at_kind c.args.kind kind.CountUp c.args.memory.now r.result.0 c.args.event c.args.tick c.args.input r.result.1 c.in-CountUp.is r.ensures

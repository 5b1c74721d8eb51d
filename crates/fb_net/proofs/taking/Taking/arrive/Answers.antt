use Rattle.fb_types.proofs.Common.{◌≡◌, Ok, Err, refl, sym, ap, ◌∙◌, arith, subst, Some, slice_get, err_from_is_err_and, on_ok_weaker, Basic, Composite, kind_of, system_of, path_at}
use Rattle.fb_types.specs.declared.library.Library.{Library}
use Rattle.std.specs.Option.{option_map}
use Rattle.fb_types.specs.declared.library.BlockType.TheVariants as block
use Rattle.fb_types.specs.declared.run.Halt.TheVariants as halt
use Rattle.fb_laws.proofs.lemmas.typing.Accepted.{accepted_typed}
use Rattle.fb_net.specs.Arrivals.{Arrives, entering, leaving, reacting}
use Rattle.fb_net.specs.Steps.{HasArrived, MayTake, WasTaken}
use Rattle.fb_types.specs.declared.run.Event.{Event as Waiting}
use Rattle.fb_net.proofs.lemmas.emitting.PortRows.{basic_input, event_block_input}
use Rattle.fb_net.proofs.lemmas.taking.Crossing.{composite-enters, composite-leaves, done-reacted, event-arrives, reacted-ended, reacting-left, reacting-stop, remembered-ended}
use Rattle.fb_net.proofs.lemmas.taking.TakingSteps.{whole-after}
use Rattle.fb_net.proofs.taking.Taking.arrive.Goals as goal

-- ---- A timer

pub returns-in-Timer-clause-taken : goal.returns-in-Timer-clause-taken
returns-in-Timer-clause-taken c =
    let left = c.args.meter.now.left in
    subst (λ (a : Waiting). WasTaken c.args.self.now a left (Ok tt) c.expire.new.self left) (sym c.in-Timer.is) (c.in_ok-expire.ensures.taken left)

pub returns-in_err-expire-clause-taken : goal.returns-in_err-expire-clause-taken
returns-in_err-expire-clause-taken c =
    let left = c.args.meter.now.left in
    let memory = err_from_is_err_and c.from_residual.result c.from_residual.ensures.1 in
    rw (memory.1, memory.2)
    (subst (λ (a : Waiting). WasTaken c.args.self.now a left (Err halt.Memory) c.expire.new.self left) (sym c.in-Timer.is)
    (record { taken = tt; outs = tt; fewer = omega arith; kept = c.expire.ensures.whole.kept }))

pub expire-requires : goal.expire-requires
expire-requires c = subst (λ (a : Waiting). MayTake c.args.self.now a) c.in-Timer.is c.requires

-- ---- Where another event arrives

pub bring-at-requires-clause-no_timer : goal.bring-at-requires-clause-no_timer
bring-at-requires-clause-no_timer c = λ n is. c.in_default.not-Timer n is

pub arrive_event-requires : goal.arrive_event-requires
arrive_event-requires c =
    let brought = c.bring-at.ensures in
    let a = c.bring-at.new.self in
    let i = a.system.now in
    let k = a.key.now in
    let at = c.bring-at.result in
    let left = c.args.meter.now.left in
    record {
      arrives = record { port = brought.target.port; stands = record { here = brought.here; whole = (brought.typed.0, brought.typed.1) }; ready = brought.ready };
      input = event_block_input (system_of i) at c.in-Event.kind brought.target (sym c.in-Event.ensures);
      of_kind = sym c.in-Event.ensures;
      sound = (accepted_typed i c.facts.ensures.accepted).system;
      typed = brought.typed;
    }

pub returns-in-Event-clause-taken : goal.returns-in-Event-clause-taken
returns-in-Event-clause-taken c =
    let brought = c.bring-at.ensures in
    let a = c.bring-at.new.self in
    let i = a.system.now in
    let k = a.key.now in
    let at = c.bring-at.result in
    let left = c.args.meter.now.left in
    let kind = c.in-Event.kind in
    let f = a.forest.now in
    let x = a.outbox.now in
    let done = c.arrive_event in
    let z = done.new.self in
    brought.taken left done.result z left
    (record {
      reacted = reacted-ended i (Arrives i k at left) f z.forest.now x z.outbox.now left done.result done.ensures.only_memory
          (on_ok_weaker done.result
          (λ did. done-reacted i (reacting i k kind at) (Arrives i k at left) f z.forest.now x z.outbox.now left
          (event-arrives i k kind at (sym c.in-Event.ensures) left) (reacting-stop i k kind at left) (reacting-left i k kind at left) did.comes)
          done.ensures.reacted);
      outs = remembered-ended _ done.result done.ensures.only_memory (on_ok_weaker done.result (λ did. did.outs) done.ensures.reacted);
      fewer = omega arith;
    })
    done.ensures.whole

pub leave-requires : goal.leave-requires
leave-requires c =
    let brought = c.bring-at.ensures in
    let a = c.bring-at.new.self in
    let i = a.system.now in
    let k = a.key.now in
    let at = c.bring-at.result in
    let left = c.args.meter.now.left in
    let declared : slice_get i.library.blocks c.in-Declared.index ≡ Some (block.Composite c.in-Some-Composite.field-0-0) =
    ap (λ (l : Library). slice_get l.blocks c.in-Declared.index) (sym c.library.ensures) ∙ sym c.in-Some-Composite.ensures.value ∙ ap Some c.in-Some-Composite.field-0-is in
    record {
      arrives = record { port = brought.target.port; stands = record { here = brought.here; whole = (brought.typed.0, brought.typed.1) }; ready = brought.ready };
      side = c.if-at.true;
      composite = (c.in-Some-Composite.field-0-0, sym c.in-Declared.ensures ∙ ap (option_map kind_of) declared);
    }

pub enter-requires : goal.enter-requires
enter-requires c =
    let brought = c.bring-at.ensures in
    let a = c.bring-at.new.self in
    let i = a.system.now in
    let k = a.key.now in
    let at = c.bring-at.result in
    let left = c.args.meter.now.left in
    let declared : slice_get i.library.blocks c.in-Declared.index ≡ Some (block.Composite c.in-Some-Composite.field-0-0) =
    ap (λ (l : Library). slice_get l.blocks c.in-Declared.index) (sym c.library.ensures) ∙ sym c.in-Some-Composite.ensures.value ∙ ap Some c.in-Some-Composite.field-0-is in
    record {
      arrives = record { port = brought.target.port; stands = record { here = brought.here; whole = (brought.typed.0, brought.typed.1) }; ready = brought.ready };
      side = c.if-at.false;
      composite = (c.in-Some-Composite.field-0-0, sym c.in-Declared.ensures ∙ ap (option_map kind_of) declared);
    }

pub returns-in_ok-leave-in-Some-Composite-clause-taken : goal.returns-in_ok-leave-in-Some-Composite-clause-taken
returns-in_ok-leave-in-Some-Composite-clause-taken c =
    let brought = c.bring-at.ensures in
    let a = c.bring-at.new.self in
    let i = a.system.now in
    let k = a.key.now in
    let at = c.bring-at.result in
    let left = c.args.meter.now.left in
    let declared : slice_get i.library.blocks c.in-Declared.index ≡ Some (block.Composite c.in-Some-Composite.field-0-0) =
    ap (λ (l : Library). slice_get l.blocks c.in-Declared.index) (sym c.library.ensures) ∙ sym c.in-Some-Composite.ensures.value ∙ ap Some c.in-Some-Composite.field-0-is in
    let t = c.in-Some-Composite.field-0-0 in
    let is : (system_of i).kind (path_at (system_of i) at.instance) ≡ Some (Composite t) = sym c.in-Declared.ensures ∙ ap (option_map kind_of) declared in
    let did = c.in_ok-leave-in-Some-Composite.ensures.left in
    let z = c.leave.new.self in
    brought.taken left (Ok tt) z left
    (record {
      reacted = done-reacted i (leaving i k at) (Arrives i k at left) a.forest.now z.forest.now a.outbox.now z.outbox.now left
          (composite-leaves i k at t is brought.target.port c.facts.ensures.accepted c.in-Declared.index declared c.if-at.true left) (λ w. refl) (λ w. refl) did.comes;
      outs = did.outs;
      fewer = omega arith;
    })
    c.leave.ensures.whole

pub returns-in_ok-enter-in-Some-Composite-clause-taken : goal.returns-in_ok-enter-in-Some-Composite-clause-taken
returns-in_ok-enter-in-Some-Composite-clause-taken c =
    let brought = c.bring-at.ensures in
    let a = c.bring-at.new.self in
    let i = a.system.now in
    let k = a.key.now in
    let at = c.bring-at.result in
    let left = c.args.meter.now.left in
    let declared : slice_get i.library.blocks c.in-Declared.index ≡ Some (block.Composite c.in-Some-Composite.field-0-0) =
    ap (λ (l : Library). slice_get l.blocks c.in-Declared.index) (sym c.library.ensures) ∙ sym c.in-Some-Composite.ensures.value ∙ ap Some c.in-Some-Composite.field-0-is in
    let t = c.in-Some-Composite.field-0-0 in
    let is : (system_of i).kind (path_at (system_of i) at.instance) ≡ Some (Composite t) = sym c.in-Declared.ensures ∙ ap (option_map kind_of) declared in
    let did = c.in_ok-enter-in-Some-Composite.ensures.entered in
    let z = c.enter.new.self in
    brought.taken left (Ok tt) z left
    (record {
      reacted = done-reacted i (entering i k at) (Arrives i k at left) a.forest.now z.forest.now a.outbox.now z.outbox.now left
          (composite-enters i k at t is brought.target.port c.if-at.false left) (λ w. refl) (λ w. refl) did.comes;
      outs = did.outs;
      fewer = omega arith;
    })
    c.enter.ensures.whole

pub returns-in_err-leave-in-Some-Composite-clause-taken : goal.returns-in_err-leave-in-Some-Composite-clause-taken
returns-in_err-leave-in-Some-Composite-clause-taken c =
    let brought = c.bring-at.ensures in
    let a = c.bring-at.new.self in
    let i = a.system.now in
    let k = a.key.now in
    let at = c.bring-at.result in
    let left = c.args.meter.now.left in
    let failed = c.from_residual-in_err-leave-in-Some-Composite in
    let memory = err_from_is_err_and failed.result failed.ensures.1 in
    let ended : HasArrived a at left (Err halt.Memory) c.leave.new.self left = record { reacted = tt; outs = tt; fewer = omega arith } in
    rw (memory.1, memory.2) (brought.taken left (Err halt.Memory) c.leave.new.self left ended c.leave.ensures.whole)

pub returns-in_err-enter-in-Some-Composite-clause-taken : goal.returns-in_err-enter-in-Some-Composite-clause-taken
returns-in_err-enter-in-Some-Composite-clause-taken c =
    let brought = c.bring-at.ensures in
    let a = c.bring-at.new.self in
    let i = a.system.now in
    let k = a.key.now in
    let at = c.bring-at.result in
    let left = c.args.meter.now.left in
    let failed = c.from_residual-in_err-enter-in-Some-Composite in
    let memory = err_from_is_err_and failed.result failed.ensures.1 in
    let ended : HasArrived a at left (Err halt.Memory) c.enter.new.self left = record { reacted = tt; outs = tt; fewer = omega arith } in
    rw (memory.1, memory.2) (brought.taken left (Err halt.Memory) c.enter.new.self left ended c.enter.ensures.whole)

pub arrive_basic-requires : goal.arrive_basic-requires
arrive_basic-requires c =
    let brought = c.bring-at.ensures in
    let a = c.bring-at.new.self in
    let i = a.system.now in
    let k = a.key.now in
    let at = c.bring-at.result in
    let left = c.args.meter.now.left in
    let declared : slice_get i.library.blocks c.in-Declared.index ≡ Some (block.Basic c.in-Some-Basic.block) =
    ap (λ (l : Library). slice_get l.blocks c.in-Declared.index) (sym c.library.ensures) ∙ sym c.in-Some-Basic.ensures.value ∙ ap Some c.in-Some-Basic.field-0-is in
    let is : (system_of i).kind (path_at (system_of i) at.instance) ≡ Some (Basic c.in-Some-Basic.block) = sym c.in-Declared.ensures ∙ ap (option_map kind_of) declared in
    record {
      arrives = record { port = brought.target.port; stands = record { here = brought.here; whole = (brought.typed.0, brought.typed.1) }; ready = brought.ready };
      input = basic_input (system_of i) at _ brought.target is;
      of_kind = is;
    }

pub returns-in-Some-Basic-clause-taken : goal.returns-in-Some-Basic-clause-taken
returns-in-Some-Basic-clause-taken c =
    let done = c.arrive_basic in
    c.bring-at.ensures.taken c.args.meter.now.left done.result done.new.self done.new.meter.left done.ensures.arrived done.ensures.whole

-- ---- The taking is the same

pub returns-in-Event-clause-same : goal.returns-in-Event-clause-same
returns-in-Event-clause-same c = (whole-after c.args.self.now c.bring-at.new.self c.arrive_event.new.self c.bring-at.ensures.whole c.arrive_event.ensures.whole).same

pub returns-in_ok-leave-in-Some-Composite-clause-same : goal.returns-in_ok-leave-in-Some-Composite-clause-same
returns-in_ok-leave-in-Some-Composite-clause-same c = (whole-after c.args.self.now c.bring-at.new.self c.leave.new.self c.bring-at.ensures.whole c.leave.ensures.whole).same

pub returns-in_ok-enter-in-Some-Composite-clause-same : goal.returns-in_ok-enter-in-Some-Composite-clause-same
returns-in_ok-enter-in-Some-Composite-clause-same c = (whole-after c.args.self.now c.bring-at.new.self c.enter.new.self c.bring-at.ensures.whole c.enter.ensures.whole).same

pub returns-in_err-leave-in-Some-Composite-clause-same : goal.returns-in_err-leave-in-Some-Composite-clause-same
returns-in_err-leave-in-Some-Composite-clause-same c = (whole-after c.args.self.now c.bring-at.new.self c.leave.new.self c.bring-at.ensures.whole c.leave.ensures.whole).same

pub returns-in_err-enter-in-Some-Composite-clause-same : goal.returns-in_err-enter-in-Some-Composite-clause-same
returns-in_err-enter-in-Some-Composite-clause-same c = (whole-after c.args.self.now c.bring-at.new.self c.enter.new.self c.bring-at.ensures.whole c.enter.ensures.whole).same

pub returns-in-Some-Basic-clause-same : goal.returns-in-Some-Basic-clause-same
returns-in-Some-Basic-clause-same c = (whole-after c.args.self.now c.bring-at.new.self c.arrive_basic.new.self c.bring-at.ensures.whole c.arrive_basic.ensures.whole).same

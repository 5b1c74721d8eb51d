use Rattle.fb_net.proofs.lemmas.Common.{◌∙◌, refl, sym, subst, arith, on_ok_weaker, slice_get, Outbox}
use Rattle.fb_net.specs.Emitting.{EmitsSo}
use Rattle.fb_net.proofs.lemmas.taking.ByEvent.{timer-expires, timer-rests, timer-taken}
use Rattle.fb_net.proofs.lemmas.emitting.OutboxKept.{timer-asked}
use Rattle.fb_net.proofs.lemmas.taking.TakingSteps.{stays-whole}
use Rattle.fb_net.proofs.lemmas.blocks.BlocksKept.{kept-same, kept-then, kept-world}
use Rattle.fb_net.proofs.taking.Taking.expire.Goals as goal

pub returns-in-Ok-clause-taken : goal.returns-in-Ok-clause-taken
returns-in-Ok-clause-taken c =
    let a = c.args.self.now in
    let i = a.system.now in
    let k = a.key.now in
    let f = a.forest.now in
    let x = a.outbox.now in
    let kind = c.in-Event.kind in
    let late = c.expire_event.new.forest in
    let emits = c.expire_event.new.emits in
    let z = c.emit_all.new.self in
    on_ok_weaker c.emit_all.result
    (λ well left. record {
      taken = timer-taken i k kind c.args.instance f z.forest.now x z.outbox.now (sym c.in-Event.ensures)
          (timer-expires i k kind c.args.instance f late z.forest.now x z.outbox.now c.expire_event.new.ask emits (sym c.in-Event.ensures) c.requires.event.here c.in-Ok.ensures.reacted
          (subst (λ (y : Outbox). EmitsSo i k c.args.instance late y emits z.forest.now z.outbox.now) c.ask_timer.ensures well.emitted)) left;
      outs = λ were. well.outs (timer-asked i f late x _ _ c.expire_event.ensures.resource c.ask_timer.ensures were);
      fewer = omega arith;
      kept = kept-then i f late z.forest.now (kept-world i f late c.expire_event.ensures.resource c.expire_event.ensures.whole) c.emit_all.ensures.whole.kept;
    })
    c.emit_all.ensures.emitted

pub emit_all-requires-clause-index : goal.emit_all-requires-clause-index
emit_all-requires-clause-index c =
    let resource = sym c.expire_event.ensures.resource in
    record {
      number = c.requires.event.numbered;
      stands = record { here = c.requires.event.here ∙ resource; whole = c.expire_event.ensures.whole };
      resource = c.requires.ready.resource ∙ resource;
    }

pub returns-in-Ok-clause-whole : goal.returns-in-Ok-clause-whole
returns-in-Ok-clause-whole c =
    let whole = c.emit_all.ensures.whole in
    record {
      same = record { system = whole.same.system; key = whole.same.key; forest = whole.same.forest; outbox = whole.same.outbox };
      kept = kept-then c.args.self.now.system.now c.args.self.now.forest.now c.expire_event.new.forest c.emit_all.new.self.forest.now
          (kept-world c.args.self.now.system.now c.args.self.now.forest.now c.expire_event.new.forest c.expire_event.ensures.resource c.expire_event.ensures.whole) whole.kept;
    }

pub returns-in-Err-clause-whole : goal.returns-in-Err-clause-whole
returns-in-Err-clause-whole c = record {
  same = record { system = refl; key = refl; forest = refl; outbox = refl };
  kept = kept-world c.args.self.now.system.now c.args.self.now.forest.now c.expire_event.new.forest c.expire_event.ensures.resource c.expire_event.ensures.whole;
}

pub returns-in-Declared-clause-taken : goal.returns-in-Declared-clause-taken
returns-in-Declared-clause-taken c left =
    let i = c.args.self.now.system.now in
    let f = c.args.self.now.forest.now in
    record {
      taken = timer-rests i c.args.self.now.key.now c.args.instance (slice_get i.library.blocks c.in-Declared.field-0) f c.args.self.now.outbox.now c.in-Declared.ensures left;
      outs = λ were. were;
      fewer = omega arith;
      kept = kept-same i f;
    }

pub returns-in-Declared-clause-whole : goal.returns-in-Declared-clause-whole
returns-in-Declared-clause-whole c = stays-whole c.args.self.now

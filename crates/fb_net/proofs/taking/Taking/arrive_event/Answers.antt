use Rattle.fb_net.proofs.lemmas.Common.{◌≡◌, ◌<◌, Some, length, sym, subst, ◌∙◌, All, Event, Inputs, system_of, path_at, ports_at, World, Key, IsEmission, InForest, IsForest, EventCame, taken_reaction, asked, Outbox, AreKept}
use Rattle.fb_system.specs.Ports.{IsPort}
use Rattle.fb_net.specs.Emitting.{EmitsSo}
use Rattle.fb_net.specs.Leaves.{HasTypedInputs}
use Rattle.fb_net.proofs.lemmas.taking.Arriving.{event-reacts, event-typed, ports-of_event}
use Rattle.fb_net.proofs.lemmas.emitting.PortRows.{event-no_basic}
use Rattle.fb_net.proofs.lemmas.emitting.OutboxKept.{timer-asked}
use Rattle.fb_net.proofs.lemmas.taking.TakingSteps.{already, put-out-after, ready-after, still, whole-after}
use Rattle.fb_net.proofs.lemmas.blocks.BlocksKept.{kept-then, kept-world}
use Rattle.fb_net.proofs.taking.Taking.arrive_event.Goals as goal

pub keep_sampled-requires-clause-may : goal.keep_sampled-requires-clause-may
keep_sampled-requires-clause-may c = record {
  arrives = c.requires.arrives;
  input = c.requires.input;
  no_basic = event-no_basic (system_of c.args.self.now.system.now) c.args.at.instance c.args.kind c.requires.of_kind;
}

pub keep_sampled-requires-clause-with : goal.keep_sampled-requires-clause-with
keep_sampled-requires-clause-with c = c.row_of-row.ensures.with

pub react_event-requires-clause-port : goal.react_event-requires-clause-port
react_event-requires-clause-port c =
    still (λ (i : Inputs) (k : Key). IsPort (system_of i) c.args.at) c.args.self.now c.keep_sampled.new.self c.keep_sampled.ensures.whole.same c.requires.arrives.port

pub react_event-requires-clause-kind : goal.react_event-requires-clause-kind
react_event-requires-clause-kind c =
    still (λ (i : Inputs) (k : Key). (system_of i).kind (path_at (system_of i) c.args.at.instance) ≡ Some (Event c.args.kind)) c.args.self.now c.keep_sampled.new.self c.keep_sampled.ensures.whole.same
    c.requires.of_kind

pub react_event-requires-clause-typed : goal.react_event-requires-clause-typed
react_event-requires-clause-typed c =
    let a = c.args.self.now in
    let b = c.keep_sampled.new.self in
    let whole = c.keep_sampled.ensures.whole in
    still (λ (i : Inputs) (k : Key). (w : World) × IsForest i b.forest.now w × InForest i b.forest.now c.args.at.instance × HasTypedInputs i c.args.kind c.args.at.instance w) a b whole.same
    (event-typed a.system.now a.key.now c.args.kind c.args.at c.requires.of_kind c.requires.input a.forest.now b.forest.now
    a.outbox.now b.outbox.now c.in_ok-keep_sampled-in-None.ensures.taken.comes c.requires.sound c.requires.typed (c.requires.arrives.stands.here ∙ sym whole.kept.resource))

pub emit_all-requires-clause-index : goal.emit_all-requires-clause-index
emit_all-requires-clause-index c =
    let a = c.args.self.now in
    let b = c.keep_sampled.new.self in
    let g = c.react_event.new.forest in
    let whole = c.keep_sampled.ensures.whole in
    let arrives = c.requires.arrives in
    let resource = sym c.react_event.ensures.resource in
    record {
      number = still (λ (i : Inputs) (k : Key). c.args.at.instance < length (system_of i).paths) a b whole.same arrives.port.instance;
      stands = record {
        here = still (λ (i : Inputs) (k : Key). InForest i g c.args.at.instance) a b whole.same (arrives.stands.here ∙ sym whole.kept.resource ∙ resource);
        whole = c.react_event.ensures.whole;
      };
      resource = still (λ (i : Inputs) (k : Key). k.resource ≡ b.forest.now.resource) a b whole.same (ready-after a b whole arrives.ready).resource ∙ resource;
    }

pub emit_all-requires-clause-emissions : goal.emit_all-requires-clause-emissions
emit_all-requires-clause-emissions c =
    let a = c.args.self.now in
    let b = c.keep_sampled.new.self in
    still (λ (i : Inputs) (k : Key). All (IsEmission (ports_at (system_of i) (path_at (system_of i) c.args.at.instance))) c.react_event.new.emits) a b c.keep_sampled.ensures.whole.same
    (ports-of_event a.system.now c.args.kind c.args.at.instance c.requires.of_kind c.react_event.new.emits c.react_event.ensures.emissions)

pub returns-in_ok-emit_all-in-None-clause-reacted : goal.returns-in_ok-emit_all-in-None-clause-reacted
returns-in_ok-emit_all-in-None-clause-reacted c =
    let a = c.args.self.now in
    let b = c.keep_sampled.new.self in
    let z = c.emit_all.new.self in
    let at = c.args.at in
    let late = c.react_event.new.forest in
    let ask = c.react_event.new.ask in
    let emits = c.react_event.new.emits in
    let whole = c.keep_sampled.ensures.whole in
    let taken = c.in_ok-keep_sampled-in-None.ensures.taken in
    let well = c.in_ok-emit_all-in-None.ensures.emitted in
    record {
      comes = event-reacts a.system.now a.key.now c.args.kind at c.requires.of_kind c.requires.input a.forest.now b.forest.now late z.forest.now a.outbox.now b.outbox.now z.outbox.now ask emits
          taken.comes (c.requires.arrives.stands.here ∙ sym whole.kept.resource)
          (already (λ (i : Inputs) (k : Key). (w : World) → IsForest i b.forest.now w → InForest i b.forest.now at.instance → EventCame i at.instance c.args.kind (taken_reaction i c.args.kind at k.tick w) late ask emits w) a b whole.same
          c.in_ok-react_event-in-None.ensures.reacted)
          (already (λ (i : Inputs) (k : Key). EmitsSo i k at.instance late (record b.outbox.now { timer = asked b.outbox.now.timer ask }) emits z.forest.now z.outbox.now) a b whole.same
          (subst (λ (x : Outbox). EmitsSo b.system.now b.key.now at.instance late x emits z.forest.now z.outbox.now) c.ask_timer.ensures well.emitted));
      outs = put-out-after a b z.forest.now z.outbox.now whole.same taken.outs
          (λ were. well.outs (timer-asked b.system.now b.forest.now late b.outbox.now _ _ c.react_event.ensures.resource c.ask_timer.ensures were));
    }

pub returns-in_ok-emit_all-in-None-clause-whole : goal.returns-in_ok-emit_all-in-None-clause-whole
returns-in_ok-emit_all-in-None-clause-whole c =
    let b = c.keep_sampled.new.self in
    let g = c.react_event.new.forest in
    let next = c.emit_all.ensures.whole in
    whole-after c.args.self.now b c.emit_all.new.self c.keep_sampled.ensures.whole
    (record {
      same = record { system = next.same.system; key = next.same.key; forest = next.same.forest; outbox = next.same.outbox };
      kept = kept-then b.system.now b.forest.now g c.emit_all.new.self.forest.now (kept-world b.system.now b.forest.now g c.react_event.ensures.resource c.react_event.ensures.whole) next.kept;
    })

pub returns-in_err-react_event-in-None-clause-whole : goal.returns-in_err-react_event-in-None-clause-whole
returns-in_err-react_event-in-None-clause-whole c =
    let b = c.keep_sampled.new.self in
    let g = c.react_event.new.forest in
    let first = c.keep_sampled.ensures.whole in
    record {
      same = record { system = first.same.system; key = first.same.key; forest = first.same.forest; outbox = first.same.outbox };
      kept = kept-then c.args.self.now.system.now c.args.self.now.forest.now b.forest.now g first.kept
          (already (λ (i : Inputs) (k : Key). AreKept i b.forest.now g) c.args.self.now b first.same (kept-world b.system.now b.forest.now g c.react_event.ensures.resource c.react_event.ensures.whole));
    }

pub returns-in_err-emit_all-in-None-clause-whole : goal.returns-in_err-emit_all-in-None-clause-whole
returns-in_err-emit_all-in-None-clause-whole c =
    let b = c.keep_sampled.new.self in
    let g = c.react_event.new.forest in
    let next = c.emit_all.ensures.whole in
    whole-after c.args.self.now b c.emit_all.new.self c.keep_sampled.ensures.whole
    (record {
      same = record { system = next.same.system; key = next.same.key; forest = next.same.forest; outbox = next.same.outbox };
      kept = kept-then b.system.now b.forest.now g c.emit_all.new.self.forest.now (kept-world b.system.now b.forest.now g c.react_event.ensures.resource c.react_event.ensures.whole) next.kept;
    })

pub returns-in_err-keep_sampled-in-None-clause-whole : goal.returns-in_err-keep_sampled-in-None-clause-whole
returns-in_err-keep_sampled-in-None-clause-whole c = c.keep_sampled.ensures.whole

pub returns-in_ok-pass_on-in-Some-clause-whole : goal.returns-in_ok-pass_on-in-Some-clause-whole
returns-in_ok-pass_on-in-Some-clause-whole c = c.pass_on.ensures.whole

pub returns-in_err-pass_on-in-Some-clause-whole : goal.returns-in_err-pass_on-in-Some-clause-whole
returns-in_err-pass_on-in-Some-clause-whole c = c.pass_on.ensures.whole

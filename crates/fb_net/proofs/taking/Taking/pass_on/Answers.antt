use Rattle.fb_types.proofs.Common.{◌<◌, cond, [], ◌∷◌, length, refl, sym, ap, subst, ◌∙◌, on_ok_weaker, system_of, path_at, ports_at}
use Rattle.fb_types.specs.declared.run.TimerAsk.TheVariants.{Keep}
use Rattle.fb_net.specs.Emitting.{bare}
use Rattle.fb_net.specs.Samples.{names_in}
use Rattle.fb_net.proofs.lemmas.taking.Arriving.{event-reacts}
use Rattle.fb_net.proofs.lemmas.blocks.Changing.{samples_none}
use Rattle.fb_net.proofs.lemmas.taking.PassingOn.{is_emission, no_names, nothing_sampled, passed_came}
use Rattle.fb_net.proofs.lemmas.emitting.OutboxKept.{lines-put}
use Rattle.fb_net.proofs.lemmas.values.Sampling.{sampling-represents}
use Rattle.fb_net.proofs.lemmas.blocks.BlocksKept.{kept-same}
use Rattle.fb_net.proofs.taking.Taking.pass_on.Goals as goal

pub write_taken-requires-clause-port : goal.write_taken-requires-clause-port
write_taken-requires-clause-port c = c.requires.may.arrives.port

pub write_taken-requires-clause-line : goal.write_taken-requires-clause-line
write_taken-requires-clause-line c =
    let t = c.args.self.now in
    let sys = system_of t.system.now in
    let its = ports_at sys (path_at sys c.args.at.instance) in
    record {
      instance = c.requires.may.arrives.port.instance;
      resource = t.named;
      event = subst (λ b. c.args.at.event < length (cond b its.event_outputs its.event_inputs)) c.requires.may.input c.requires.may.arrives.port.event;
      values = ap length c.new-values.ensures ∙ sym (ap length (no_names t.system.now t.forest.now c.args.kind c.args.at c.args.event c.requires.passes c.requires.may.of_kind));
    }

pub emit_bare-requires-clause-index : goal.emit_bare-requires-clause-index
emit_bare-requires-clause-index c =
    record { number = c.requires.may.arrives.port.instance; stands = c.requires.may.arrives.stands; resource = c.requires.may.arrives.ready.resource }

pub emit_bare-requires-clause-emission : goal.emit_bare-requires-clause-emission
emit_bare-requires-clause-emission c =
    let t = c.args.self.now in is_emission t.system.now t.forest.now c.args.kind c.args.at c.args.event c.requires.passes c.requires.may.of_kind

pub returns-clause-reacted : goal.returns-clause-reacted
returns-clause-reacted c =
    let t = c.args.self.now in
    let i = t.system.now in
    let k = t.key.now in
    let f = t.forest.now in
    let x = t.outbox.now in
    let y = c.write_taken.new.outbox in
    let z = c.emit_bare.new.self in
    let at = c.args.at in
    let values = c.new-values.result in
    let passes = c.requires.passes in
    let may = c.requires.may in
    let sampled = nothing_sampled i f c.args.kind at c.args.event passes may.of_kind values c.new-values.ensures in
    let kept = samples_none i f at.instance (names_in (system_of i) at) values (ap length c.new-values.ensures) in
    let taken = sampling-represents i k at f f x y values may.arrives.ready may.input may.arrives.stands.here sampled kept
    c.in_ok-write_taken.ensures.written c.write_taken.ensures.outs c.write_taken.ensures.timer in
    on_ok_weaker c.emit_bare.result
    (λ well. record {
      comes = event-reacts i k c.args.kind at may.of_kind may.input f f f z.forest.now x y z.outbox.now Keep (bare c.args.event ∷ []) taken
          may.arrives.stands.here (passed_came i f c.args.kind at c.args.event passes may.of_kind may.arrives.port.instance k.tick) well.emitted;
      outs = λ were. well.outs (lines-put i f f x y refl c.write_taken.ensures.outs c.in_ok-write_taken.ensures.lines were);
    })
    c.emit_bare.ensures.emitted

pub returns-in_err-write_taken-clause-whole : goal.returns-in_err-write_taken-clause-whole
returns-in_err-write_taken-clause-whole c = record { same = record { system = refl; key = refl; forest = refl; outbox = refl }; kept = kept-same c.args.self.now.system.now c.args.self.now.forest.now }

pub returns-clause-whole : goal.returns-clause-whole
returns-clause-whole c =
    let whole = c.emit_bare.ensures.whole in
    record { same = record { system = whole.same.system; key = whole.same.key; forest = whole.same.forest; outbox = whole.same.outbox }; kept = whole.kept }

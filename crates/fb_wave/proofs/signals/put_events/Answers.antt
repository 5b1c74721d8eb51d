use Rattle.fb_types.proofs.Common.{ℕ, ◌++◌, ap, ◌∙◌, arith, Name}
use Rattle.fb_types.specs.declared.library.EventPort.{EventPort}
use Rattle.fb_wave.specs.Scopes.{event_in, event_declarations}
use Rattle.fb_wave.proofs.lemmas.Declaring.{events_go}
use Rattle.fb_wave.proofs.lemmas.Listing.{going_on, gone_all}
use Rattle.fb_wave.proofs.signals.put_events.Goals as goal

pub loop-event-preserved : goal.loop-event-preserved
loop-event-preserved c =
    let event = event_in c.args.part in
    let s = c.loop-event.signal in
    let text = c.loop-event.text.items in
    record {
      number = omega (arith, c.loop-event.invariant.number);
      text =
          going_on (event_declarations event) (λ (n : ℕ) (e : EventPort). event n e.name) c.args.text.now.items text c.put_event.new.text.items c.args.first s c.loop-event.event-index
          c.args.events.now c.event-item.result (events_go event) c.loop-event-test.true c.event-item.is
          (c.in_ok-put_event.ensures ∙ ap (λ (n : Name). text ++ event s n) c.as_bytes.ensures) c.loop-event.invariant.text;
    }

pub returns : goal.returns
returns c =
    let event = event_in c.args.part in
    gone_all (event_declarations event) (λ (n : ℕ) (e : EventPort). event n e.name) c.args.text.now.items c.loop-event.text.items c.args.first c.loop-event.signal
    c.loop-event.event-index c.args.events.now (events_go event) (omega (arith, c.loop-event-test.false)) c.loop-event.invariant.text

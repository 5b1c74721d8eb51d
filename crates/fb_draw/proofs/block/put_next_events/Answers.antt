use Rattle.fb_types.specs.declared.library.EventPort.{EventPort}
use Rattle.fb_draw.specs.Networks as spec
use Rattle.fb_text.proofs.lemmas.Adding.{list_added, next_added}
use Rattle.fb_draw.proofs.block.put_next_events.Goals as goal

pub loop-event-preserved : goal.loop-event-preserved
loop-event-preserved c =
    next_added (λ (e : EventPort). spec.next_field e.name) c.args.events.now c.loop-event.event-index c.event-item.result c.loop-event.text.items _ _ c.loop-event-test.true c.event-item.is
    c.in_ok-put_field.ensures c.loop-event.invariant

pub returns : goal.returns
returns c = list_added (λ (e : EventPort). spec.next_field e.name) c.args.events.now c.loop-event.event-index _ _ c.loop-event-test.false c.loop-event.invariant

use Rattle.fb_types.proofs.Common.{◌≡◌, ◌++◌, drop}
use Rattle.fb_types.specs.declared.library.EventPort.{EventPort}
use Rattle.std.specs.List.{flat_map}
use Rattle.fb_draw.specs.Networks as spec
use Rattle.fb_draw.proofs.block.put_next_events.Given as goal

-- with what the rest adds, all is there
abbrev pub invariant-loop-event : goal.invariant-loop-event
invariant-loop-event l = l.text.items ++ flat_map (λ (e : EventPort). spec.next_field e.name) (drop l.event-index l.events) ≡ l.fn.text.items ++ flat_map (λ (e : EventPort). spec.next_field e.name) l.events

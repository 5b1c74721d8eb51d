use Rattle.fb_wave.proofs.lemmas.Common.{◌≡◌, drop, list_all, EventPort, is_name}
use Rattle.fb_wave.proofs.names.are_events_named.Given as goal

abbrev pub invariant-loop-event : goal.invariant-loop-event
invariant-loop-event l = list_all (λ (e : EventPort). is_name e.name) l.events ≡ list_all (λ (e : EventPort). is_name e.name) (drop l.event-index l.events)

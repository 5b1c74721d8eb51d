use Rattle.std.proofs.Common.{◌≡◌, ◌+◌}
use Rattle.fb_wave.specs.Scopes.{event_in, event_declarations}
use Rattle.fb_wave.proofs.lemmas.Listing.{SoFar}
use Rattle.fb_wave.proofs.signals.put_events.Given as goal

abbrev pub invariant-loop-event : goal.invariant-loop-event
invariant-loop-event l = record {
  number : l.signal ≡ l.first + l.event-index;
  text : SoFar (event_declarations (event_in l.part)) l.initial.text.items l.text.items l.first l.signal l.event-index l.events;
}

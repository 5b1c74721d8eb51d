use Rattle.std.proofs.Common.{◌≡◌, map, take}
use Rattle.fb_types.specs.EventRows.{event_of}
use Rattle.fb_types.proofs.event_ports.events.Given as goal

abbrev pub invariant-loop-name : goal.invariant-loop-name
invariant-loop-name l = l.events ≡ map event_of (take l.name-index l.rows)

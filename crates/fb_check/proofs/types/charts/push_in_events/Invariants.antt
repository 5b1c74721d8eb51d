use Rattle.fb_check.proofs.lemmas.Common.{◌≡◌, ◌++◌, drop, names_of_kind, unknown_variables, each_at, each_from}
use Rattle.fb_check.proofs.types.charts.push_in_events.Given as goal

abbrev pub invariant-loop-event : goal.invariant-loop-event
invariant-loop-event l =
    l.found.items ++ each_from (unknown_variables (names_of_kind l.port_kind l.interface.ports) l.block l.direction) l.event (drop l.event l.events) ≡ l.fn.found.items ++ each_at (unknown_variables (names_of_kind l.port_kind l.interface.ports) l.block l.direction) l.events

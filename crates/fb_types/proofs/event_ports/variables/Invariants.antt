use Rattle.std.proofs.Common.{◌≡◌, map, take}
use Rattle.fb_types.specs.EventRows.{variable_of}
use Rattle.fb_types.proofs.event_ports.variables.Given as goal

abbrev pub invariant-loop-name : goal.invariant-loop-name
invariant-loop-name l = l.variables ≡ map variable_of (take l.name-index l.rows)

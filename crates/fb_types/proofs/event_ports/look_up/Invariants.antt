use Rattle.std.proofs.Common.{◌≡◌, length, map}
use Rattle.fb_types.specs.EventRows.{kind_among, name_and_kind}
use Rattle.fb_types.proofs.event_ports.look_up.Given as goal

abbrev pub invariant-loop-table : goal.invariant-loop-table
invariant-loop-table l = kind_among (map name_and_kind l.table) l.name ≡ kind_among (map name_and_kind l.initial.table) l.name

abbrev pub decreases-loop-table : goal.decreases-loop-table
decreases-loop-table l = length l.table

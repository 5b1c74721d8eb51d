-- What the rows of the event blocks represent.
use Rattle.std.specs.Prelude.{List, map, Option, option_map}
use Rattle.std.specs.Borrow.{Bor}
use Rattle.fb_types.specs.Blocks.{named, event_with, variable, ports}
use Rattle.fb_types.specs.Names.{Name}
use Rattle.fb_types.specs.declared.event_kind.EventKind.{EventKind}
use Rattle.fb_types.specs.declared.event_kind.Row.{Row}
use Rattle.fb_types.specs.declared.library.EventPort.{EventPort}
use Rattle.fb_types.specs.declared.library.Ports.{Ports}
use Rattle.fb_types.specs.declared.library.Variable.{Variable}
use Rattle.fb_types.specs.declared.value.Ty.{Ty}

-- the kind of the first entry with the name
abbrev pub kind_among : List (Name × EventKind) → Name → Option EventKind
kind_among table n = option_map (λ e. e.1) (named (λ e. e.0) n table)

abbrev pub event_of : Bor Name × Bor (List (Bor Name)) → EventPort
event_of r = event_with r.0.now (map (λ v. v.now) r.1.now)

abbrev pub variable_of : Bor Name × Ty → Variable
variable_of r = variable r.0.now r.1

abbrev pub name_and_kind : Row → Name × EventKind
name_and_kind r = (r.name.now, r.kind)

abbrev pub ports_of_row : Row → Ports
ports_of_row r =
    ports (map event_of r.event_inputs.now) (map event_of r.event_outputs.now) (map variable_of r.inputs.now) (map variable_of r.outputs.now)

-- Ports and variables of instances by their numbers (IEC 61499-1, 5.3 and 7; the numbers are this project's profile).
use Rattle.std.specs.Prelude.{◌≡◌, ℕ, ◌<◌, true, false, [], length, if◌then◌else◌, Some, None, unwrap_or, slice_get}
use Rattle.fb_types.specs.Names.{Name, Port}
use Rattle.fb_types.specs.Blocks.{Composite, ports, ports_of, variable_names}
use Rattle.fb_types.specs.Flat.{kind_at, paths_of}
use Rattle.fb_types.specs.Numbers.{event_at}
use Rattle.fb_types.specs.declared.library.CompositeType.{CompositeType}
use Rattle.fb_types.specs.declared.library.Library.{Library}
use Rattle.fb_types.specs.declared.library.Ports.{Ports}
use Rattle.fb_types.specs.declared.library.EventPort.{EventPort}
use Rattle.fb_types.specs.declared.library.Variable.{Variable}
use Rattle.fb_types.specs.declared.run.Target.{Target}
use Rattle.std.specs.Prelude.{List}
use Rattle.fb_system.specs.Layouts.{path_of}
use Rattle.fb_types.specs.declared.run.InstanceVariable.{InstanceVariable}

-- the ports of an instance's type
abbrev pub ports_here : Library → (instance : ℕ) → Ports
ports_here lib i = elim (kind_at lib (path_of lib i)) [ None ↦ ports [] [] [] [] | Some k ↦ ports_of k ]

-- ---- Events

abbrev pub event_input : Library → (instance event : ℕ) → Port
event_input lib i e = record { at = path_of lib i; name = event_at (ports_here lib i).event_inputs e }

abbrev pub event_output : Library → (instance event : ℕ) → Port
event_output lib i e = record { at = path_of lib i; name = event_at (ports_here lib i).event_outputs e }

-- the port that an event's numbers represent, as in a flat system of the declaration
abbrev pub port_of : Library → Target → Port
port_of lib t = if t.is_output then event_output lib t.instance t.event else event_input lib t.instance t.event

-- the events among which it has its index
abbrev pub events_here : Library → Target → List EventPort
events_here lib t = if t.is_output then (ports_here lib t.instance).event_outputs else (ports_here lib t.instance).event_inputs

pub record IsPort (lib : Library) (t : Target) : Type 0 where
  pub instance : t.instance < length (paths_of lib)
  pub event : t.event < length (events_here lib t)

-- ---- Data

-- the name of the variable at an index
abbrev pub variable_at : List Variable → ℕ → Name
variable_at vs k = unwrap_or (slice_get (variable_names vs) k) []

abbrev pub data_input : Library → (instance variable : ℕ) → Port
data_input lib i v = record { at = path_of lib i; name = variable_at (ports_here lib i).inputs v }

abbrev pub data_output : Library → (instance variable : ℕ) → Port
data_output lib i v = record { at = path_of lib i; name = variable_at (ports_here lib i).outputs v }

-- the port that a variable's numbers represent
abbrev pub variable_of : Library → InstanceVariable → Port
variable_of lib x = if x.is_output then data_output lib x.instance x.variable else data_input lib x.instance x.variable

-- the variables among which it has its index
abbrev pub variables_here : Library → InstanceVariable → List Variable
variables_here lib x = if x.is_output then (ports_here lib x.instance).outputs else (ports_here lib x.instance).inputs

pub record IsVariable (lib : Library) (x : InstanceVariable) : Type 0 where
  pub instance : x.instance < length (paths_of lib)
  pub variable : x.variable < length (variables_here lib x)

-- ---- What connections lead to and come from

-- the instance is a composite
abbrev pub IsCompositeHere : Library → (instance : ℕ) → Type 0
IsCompositeHere lib i = (t : CompositeType) × (kind_at lib (path_of lib i) ≡ Some (Composite t))

-- A port at which events arrive: an event input, or an event output of a composite, which is reached from inside.
pub record IsTarget (lib : Library) (t : Target) : Type 0 where
  pub port : IsPort lib t
  pub composite : t.is_output ≡ true → IsCompositeHere lib t.instance

-- A variable that others are connected to: a data output, or a data input of a composite, which is seen from inside.
pub record IsSource (lib : Library) (x : InstanceVariable) : Type 0 where
  pub variable : IsVariable lib x
  pub composite : x.is_output ≡ false → IsCompositeHere lib x.instance

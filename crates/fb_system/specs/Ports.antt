-- Ports and variables of a system by number (IEC 61499-1, 5.3 and 7; the numbers are this project's profile).
use Rattle.std.specs.Prelude.{◌≡◌, true, false, Some, ℕ, ◌<◌, List, [], length, if◌then◌else◌, unwrap_or, slice_get}
use Rattle.fb_types.specs.Names.{Port}
use Rattle.fb_types.specs.Blocks.{Composite, variable_names}
use Rattle.fb_types.specs.Systems.{System}
use Rattle.fb_types.specs.Numbers.{path_at, ports_at}
use Rattle.fb_types.specs.declared.library.CompositeType.{CompositeType}
use Rattle.fb_types.specs.declared.library.EventPort.{EventPort}
use Rattle.fb_types.specs.declared.library.Variable.{Variable}
use Rattle.fb_types.specs.declared.run.Carried.{Carried}
use Rattle.fb_types.specs.declared.run.Target.{Target}
use Rattle.fb_types.specs.declared.run.InstanceVariable.{InstanceVariable}

-- ---- Ports

-- the events among which a port has its index
abbrev pub events_at : System → Target → List EventPort
events_at sys t =
    let its = ports_at sys (path_at sys t.instance) in if t.is_output then its.event_outputs else its.event_inputs

-- an event input or an event output of an instance
pub record IsPort (sys : System) (t : Target) : Type 0 where
  pub instance : t.instance < length sys.paths
  pub event : t.event < length (events_at sys t)

-- ---- Variables

-- the variables among which one has its index
abbrev pub variables_at : System → InstanceVariable → List Variable
variables_at sys x = let its = ports_at sys (path_at sys x.instance) in if x.is_output then its.outputs else its.inputs

abbrev pub data_input : System → (instance variable : ℕ) → Port
data_input sys i v =
    let p = path_at sys i in record { at = p; name = unwrap_or (slice_get (variable_names (ports_at sys p).inputs) v) [] }

abbrev pub data_output : System → (instance variable : ℕ) → Port
data_output sys i v =
    let p = path_at sys i in record { at = p; name = unwrap_or (slice_get (variable_names (ports_at sys p).outputs) v) [] }

-- the port that a variable's numbers represent
abbrev pub variable_of : System → InstanceVariable → Port
variable_of sys x = if x.is_output then data_output sys x.instance x.variable else data_input sys x.instance x.variable

-- a data input or a data output of an instance
pub record IsVariable (sys : System) (x : InstanceVariable) : Type 0 where
  pub instance : x.instance < length sys.paths
  pub variable : x.variable < length (variables_at sys x)

-- ---- Resources

-- both instances are in the same resource
abbrev pub AreTogether : System → (a b : ℕ) → Type 0
AreTogether sys a b = sys.resource (path_at sys a) ≡ sys.resource (path_at sys b)

-- the link from the resource of one instance to that of another
abbrev pub link_of : System → (from to : ℕ) → ℕ
link_of sys from to = sys.link (sys.resource (path_at sys from)) (sys.resource (path_at sys to))

-- ---- What connections lead to and come from

-- the instance is a composite
abbrev pub IsCompositeAt : System → (instance : ℕ) → Type 0
IsCompositeAt sys k = (c : CompositeType) × (sys.kind (path_at sys k) ≡ Some (Composite c))

-- A port at which events arrive: an event input, or an event output of a composite, which is reached from inside.
pub record IsTarget (sys : System) (t : Target) : Type 0 where
  pub port : IsPort sys t
  pub composite : t.is_output ≡ true → IsCompositeAt sys t.instance

-- A variable that others are connected to: a data output, or a data input of a composite, which is seen from inside.
pub record IsSource (sys : System) (x : InstanceVariable) : Type 0 where
  pub variable : IsVariable sys x
  pub composite : x.is_output ≡ false → IsCompositeAt sys x.instance

-- a value of a data output of an instance
pub record IsCarried (sys : System) (c : Carried) : Type 0 where
  pub instance : c.instance < length sys.paths
  pub variable : c.variable < length (ports_at sys (path_at sys c.instance)).outputs

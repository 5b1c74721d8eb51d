-- What contracts say of a system: its value is the accepted inputs, and each of these is of the flat system that they declare.
use Rattle.std.specs.Prelude.{ℕ, ◌<◌, List, [], Option, length, slice_index_or}
use Rattle.fb_types.specs.Names.{Name, Path, Port}
use Rattle.fb_types.specs.Blocks.{Kind}
use Rattle.fb_types.specs.States as states
use Rattle.fb_types.specs.Numbers as numbers
use Rattle.fb_types.specs.Reactions as reactions
use Rattle.fb_types.specs.Simulation as simulation
use Rattle.fb_types.specs.Text as text
use Rattle.fb_types.specs.Machines.{Machine}
use Rattle.fb_types.specs.Parts as parts
use Rattle.fb_types.specs.Cores as cores
use Rattle.fb_types.specs.Headline.{Inputs, system_of}
use Rattle.fb_types.specs.declared.library.Ports.{Ports}
use Rattle.fb_types.specs.declared.run.Carried.{Carried}
use Rattle.fb_types.specs.declared.run.Form.{Form}
use Rattle.fb_types.specs.declared.run.Line.{Line}
use Rattle.fb_types.specs.declared.run.Target.{Target}
use Rattle.fb_types.specs.declared.value.Value.{Value}

-- ---- Instances and resources

abbrev pub instance_count : Inputs → ℕ
instance_count i = length (system_of i).paths

-- an instance has this number
abbrev pub IsInstance : Inputs → (instance : ℕ) → Type 0
IsInstance i k = k < length (system_of i).paths

abbrev pub resource_count : Inputs → ℕ
resource_count i = length (system_of i).resource_names

-- a resource has this number
abbrev pub IsResource : Inputs → (resource : ℕ) → Type 0
IsResource i r = r < length (system_of i).resource_names

abbrev pub resource_name : Inputs → (resource : ℕ) → Name
resource_name i r = slice_index_or (system_of i).resource_names r []

abbrev pub link_count : Inputs → ℕ
link_count i = (system_of i).links

-- ---- What is at a path, and what numbers represent

abbrev pub kind_at : Inputs → Path → Option Kind
kind_at i = (system_of i).kind

abbrev pub resource_at : Inputs → Path → ℕ
resource_at i = (system_of i).resource

abbrev pub targets_at : Inputs → Port → List Port
targets_at i = (system_of i).targets

abbrev pub path_at : Inputs → (instance : ℕ) → Path
path_at i = numbers.path_at (system_of i)

abbrev pub ports_at : Inputs → Path → Ports
ports_at i = numbers.ports_at (system_of i)

abbrev pub port_of : Inputs → Target → Port
port_of i = numbers.port_of (system_of i)

abbrev pub carried_of : Inputs → Carried → Port × Value
carried_of i = numbers.carried_of (system_of i)

abbrev pub line_of : Inputs → Line → states.Line
line_of i = numbers.line_of (system_of i)

-- ---- Its trace

abbrev pub line_text : Form → Inputs → states.Line → List ℕ
line_text form i = text.line_text form (system_of i)

abbrev pub lines_text : Form → Inputs → List states.Line → List ℕ
lines_text form i = text.lines_text form (system_of i)

abbrev pub last_line : Inputs → simulation.Ending → List ℕ
last_line i = text.last_line (system_of i)

-- ---- How it runs

abbrev pub spread : Inputs → (resource : ℕ) → List (Port × Value) → List Port → List reactions.Out
spread i = reactions.spread (system_of i)

abbrev pub opening_block : Inputs → Path → states.Block
opening_block i = simulation.opening_block (system_of i)

abbrev pub opening_state : Inputs → states.State
opening_state i = simulation.opening_state (system_of i)

abbrev pub opening_agenda : Inputs → List simulation.Stimulus → states.Agenda
opening_agenda i = simulation.opening_agenda (system_of i)

abbrev pub machine : Inputs → (limit : ℕ) → Machine
machine i = parts.machine (system_of i)

abbrev pub opening_core : (i : Inputs) → List simulation.Stimulus → (limit : ℕ) → cores.Core (parts.machine (system_of i) limit)
opening_core i = cores.opening_core (system_of i)

-- What contracts say of the numbers of a system: its value is the accepted inputs, and each of these is of the flat
-- system.
use Rattle.std.specs.Prelude.{ℕ, Bool, List, Option}
use Rattle.fb_types.specs.Names.{Name, Path, Port}
use Rattle.fb_types.specs.Headline.{Inputs, system_of}
use Rattle.fb_types.specs.declared.library.Variable.{Variable}
use Rattle.fb_types.specs.declared.run.Carried.{Carried}
use Rattle.fb_types.specs.declared.run.InstanceVariable.{InstanceVariable}
use Rattle.fb_types.specs.declared.run.Line.{Line}
use Rattle.fb_types.specs.declared.run.Target.{Target}
use Rattle.fb_types.specs.declared.value.Value.{Value}
use Rattle.fb_system.specs.Ends as ends
use Rattle.fb_system.specs.Heads as heads
use Rattle.fb_system.specs.Lines as lines
use Rattle.fb_system.specs.PortRows as port_rows
use Rattle.fb_system.specs.Ports as ports
use Rattle.fb_system.specs.Stimuli as stimuli
use Rattle.fb_system.specs.declared.ends.Ends.{Ends}
use Rattle.fb_system.specs.declared.ends.SourceRow.{SourceRow}
use Rattle.fb_system.specs.declared.heads.Head.{Head}
use Rattle.fb_system.specs.declared.heads.HeadOf.{HeadOf}
use Rattle.fb_system.specs.declared.heads.Heads.{Heads}
use Rattle.fb_system.specs.declared.next_target.NextTarget.{NextTarget}
use Rattle.fb_system.specs.declared.port_row.With.{With}
use Rattle.fb_system.specs.declared.source.Source.{Source}

-- ---- Instances

-- the number of the instance at a path
abbrev pub number_at : Inputs → Path → ℕ
number_at i = (system_of i).number

-- ---- Ports and variables

abbrev pub IsPort : Inputs → Target → Type 0
IsPort i = ports.IsPort (system_of i)

abbrev pub IsTarget : Inputs → Target → Type 0
IsTarget i = ports.IsTarget (system_of i)

abbrev pub IsVariable : Inputs → InstanceVariable → Type 0
IsVariable i = ports.IsVariable (system_of i)

abbrev pub IsCarried : Inputs → Carried → Type 0
IsCarried i = ports.IsCarried (system_of i)

abbrev pub IsCompositeAt : Inputs → (instance : ℕ) → Type 0
IsCompositeAt i = ports.IsCompositeAt (system_of i)

abbrev pub AreTogether : Inputs → (a b : ℕ) → Type 0
AreTogether i = ports.AreTogether (system_of i)

abbrev pub variable_of : Inputs → InstanceVariable → Port
variable_of i = ports.variable_of (system_of i)

abbrev pub IsSource : Inputs → InstanceVariable → Type 0
IsSource i = ports.IsSource (system_of i)

-- what a variable begins with
abbrev pub initial_at : Inputs → Port → Value
initial_at i = (system_of i).initial

abbrev pub initial_inputs : Inputs → Path → List Value
initial_inputs i = stimuli.initial_inputs (system_of i)

abbrev pub initial_outputs : Inputs → Path → List Value
initial_outputs i = stimuli.initial_outputs (system_of i)

-- the data inputs or outputs of the instance of an event port, and the names of those WITH the event
abbrev pub port_variables : Inputs → Target → List Variable
port_variables i = port_rows.port_variables (system_of i)

abbrev pub port_names : Inputs → Target → List Name
port_names i = port_rows.port_names (system_of i)

abbrev pub IsWith : Inputs → Target → With → Type 0
IsWith i = port_rows.IsWith (system_of i)

-- ---- Connections

-- what a variable is connected to
abbrev pub source_at : Inputs → Port → Option Port
source_at i = (system_of i).source

abbrev pub LeadsTo : Inputs → (from : Target) → (index : ℕ) → Option NextTarget → Type 0
LeadsTo i = ends.LeadsTo (system_of i)

abbrev pub ComesFrom : Inputs → (to : InstanceVariable) → Option InstanceVariable → Type 0
ComesFrom i = ends.ComesFrom (system_of i)

abbrev pub IsSourceOf : Inputs → (to : InstanceVariable) → Option Source → Type 0
IsSourceOf i = ends.IsSourceOf (system_of i)

abbrev pub IsSourceRowAt : Inputs → (instance : ℕ) → (is_output : Bool) → (variable : ℕ) → SourceRow → Type 0
IsSourceRowAt i = ends.IsSourceRowAt (system_of i)

abbrev pub AreSources : Inputs → Ends → Type 0
AreSources i = ends.AreSources (system_of i)

-- ---- Links

-- the link from a resource to another, and the two ends of a link
abbrev pub link_between : Inputs → (from to : ℕ) → ℕ
link_between i = (system_of i).link

abbrev pub sender_of : Inputs → (link : ℕ) → ℕ
sender_of i = (system_of i).sender

abbrev pub receiver_of : Inputs → (link : ℕ) → ℕ
receiver_of i = (system_of i).receiver

-- the link from the resource of an instance to that of another
abbrev pub link_of : Inputs → (from to : ℕ) → ℕ
link_of i = ports.link_of (system_of i)

-- when a message arrives that is sent over a link at a tick
abbrev pub arrival_over : Inputs → (link sent_tick : ℕ) → ℕ
arrival_over i = (system_of i).arrival

-- ---- Lines

abbrev pub BelongsTo : Inputs → Line → Type 0
BelongsTo i = lines.BelongsTo (system_of i)

abbrev pub line_variables : Inputs → Line → List Name
line_variables i = lines.line_variables (system_of i)

abbrev pub IsOfHead : Inputs → HeadOf → Type 0
IsOfHead i = heads.IsOfHead (system_of i)

abbrev pub head_variables : Inputs → HeadOf → List Name
head_variables i = heads.head_variables (system_of i)

abbrev pub IsHead : Inputs → HeadOf → Head → Type 0
IsHead i = heads.IsHead (system_of i)

abbrev pub IsRowAt : Inputs → (instance : ℕ) → (taken : Bool) → (event : ℕ) → Head → Type 0
IsRowAt i = heads.IsRowAt (system_of i)

abbrev pub AreHeads : Inputs → Heads → Type 0
AreHeads i = heads.AreHeads (system_of i)

abbrev pub head_event : Inputs → HeadOf → Name
head_event i = heads.head_event (system_of i)

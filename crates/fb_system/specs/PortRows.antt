-- What a row says of an event port (IEC 61499-1, 5.1 and 5.3; the numbers are this project's profile).
use Rattle.std.specs.Prelude.{ℕ, List, [], ◌∷◌, Bool, Option, if◌then◌else◌}
use Rattle.fb_types.specs.Names.{Name}
use Rattle.fb_types.specs.Blocks as types
use Rattle.fb_types.specs.Headline.{Inputs, system_of}
use Rattle.fb_types.specs.Numbers.{event_at, path_at, ports_at}
use Rattle.fb_types.specs.Systems.{System}
use Rattle.fb_types.specs.declared.library.Ports.{Ports}
use Rattle.fb_types.specs.declared.library.Variable.{Variable}
use Rattle.fb_types.specs.declared.run.Target.{Target}
use Rattle.fb_system.specs.Ends.{IsSourceOf, LeadsTo}
use Rattle.fb_system.specs.IndexLists.{AreIndexes}
use Rattle.fb_system.specs.RowRanges.{AreInRanges}
use Rattle.fb_system.specs.declared.ends.Ends.{Ends}
use Rattle.fb_system.specs.declared.port_row.PortRow.{PortRow}
use Rattle.fb_system.specs.declared.port_row.With.{With}
use Rattle.fb_system.specs.declared.port_row.With.TheVariants.{Nothing, One, Several}
use Rattle.fb_system.specs.declared.source.Source.{Source}

-- the variables among which those WITH the events of a port are, of an interface
abbrev pub variables_of : Ports → (is_output : Bool) → List Variable
variables_of its is_output = if is_output then its.outputs else its.inputs

-- the names of the variables WITH an event
abbrev pub names_of : Ports → (is_output : Bool) → (event : ℕ) → List Name
names_of its is_output e =
    if is_output then types.outputs_with its (event_at its.event_outputs e) else types.inputs_with its (event_at its.event_inputs e)

abbrev pub port_variables : System → Target → List Variable
port_variables sys at = variables_of (ports_at sys (path_at sys at.instance)) at.is_output

abbrev pub port_names : System → Target → List Name
port_names sys at = names_of (ports_at sys (path_at sys at.instance)) at.is_output at.event

-- one variable WITH the event of a port, and what it is connected to
pub record IsOneWith (sys : System) (at : Target) (variable : ℕ) (source : Option Source) : Type 0 where
  pub indexes : AreIndexes (port_variables sys at) (port_names sys at) (variable ∷ [])
  pub comes : IsSourceOf sys (record { instance = at.instance; variable = variable; is_output = at.is_output }) source

-- the variables WITH the event of a port
abbrev pub IsWith : System → Target → With → Type 0
IsWith sys at Nothing = AreIndexes (port_variables sys at) (port_names sys at) []
IsWith sys at (One variable source) = IsOneWith sys at variable source
IsWith sys at Several = Unit {0}

-- what a row says of a port
pub record IsPortRow (i : Inputs) (at : Target) (r : PortRow) : Type 0 where
  pub with : IsWith (system_of i) at r.with
  pub first : LeadsTo (system_of i) at 0 r.first

-- The row of an event input, or of an event output, of an instance.
abbrev pub IsPortRowAt : Inputs → (instance : ℕ) → (is_output : Bool) → (event : ℕ) → PortRow → Type 0
IsPortRowAt i n side e r = IsPortRow i (record { instance = n; event = e; is_output = side }) r

abbrev pub ArePortRows : Inputs → Ends → Type 0
ArePortRows i ends = AreInRanges (IsPortRowAt i) ends.ports ends.port_ranges

-- Block types and their ports (IEC 61499-1, 5.1 and Annex A; the ports of event blocks are this project's profile).
use Rattle.std.specs.Prelude.{ℕ, List, [], ◌∷◌, ◌++◌, map, Bool, ◌&&◌, if◌then◌else◌, Option, Some, None, option_map, slice_get, codes}
use Rattle.std.specs.List.{filter, list_any}
use Rattle.fb_types.specs.Names.{Name, same_name}
use Rattle.fb_types.specs.Values.{Values, Types, zero_of}
use Rattle.fb_types.specs.declared.value.Value.{Value}
use Rattle.fb_types.specs.declared.value.Ty.{Ty}
use Rattle.fb_types.specs.declared.value.Ty.TheVariants.{Uint, Time, Bool as Boolean}
use Rattle.fb_types.specs.declared.library.EventPort.{EventPort}
use Rattle.fb_types.specs.declared.library.Variable.{Variable}
use Rattle.fb_types.specs.declared.library.Ports.{Ports}
use Rattle.fb_types.specs.declared.library.BasicType.{BasicType}
use Rattle.fb_types.specs.declared.library.CompositeType.{CompositeType}
use Rattle.fb_types.specs.declared.event_kind.EventKind.{EventKind}
use Rattle.fb_types.specs.declared.event_kind.EventKind.TheVariants.{Restart, Split, Merge, Rendezvous, Permit, Select, Switch, Delay, Cycle, SetReset, DataLatch, RisingEdge, FallingEdge, CountUp}

-- The type of an instance.
pub data Kind : Type 0 where
  Basic : BasicType → Kind
  Event : EventKind → Kind
  Composite : CompositeType → Kind

-- the first element with the name
abbrev pub named : {A : Type 0} → (A → Name) → Name → List A → Option A
named name_of n [] = None
named name_of n (x ∷ xs) = if same_name (name_of x) n then Some x else named name_of n xs

abbrev pub among : List Name → Name → Bool
among ns n = list_any (same_name n) ns

-- ---- The event blocks' ports

abbrev pub event_with : Name → List Name → EventPort
event_with n vs = record { name = n; with = vs }

abbrev pub event : Name → EventPort
event n = event_with n []

abbrev pub variable : Name → Ty → Variable
variable n t = record { name = n; ty = t; initial = None }

abbrev pub ports : (event_inputs event_outputs : List EventPort) → (inputs outputs : List Variable) → Ports
ports ins outs from to = record { event_inputs = ins; event_outputs = outs; inputs = from; outputs = to }

abbrev pub timer_ports : Ports
timer_ports =
    ports (event_with (codes "START") (codes "DT" ∷ []) ∷ event (codes "STOP") ∷ []) (event (codes "EO") ∷ [])
    (variable (codes "DT") Time ∷ []) []

abbrev pub edge_ports : Ports
edge_ports = ports (event_with (codes "EI") (codes "QI" ∷ []) ∷ []) (event (codes "EO") ∷ []) (variable (codes "QI") Boolean ∷ []) []

abbrev pub ports_of_event_block : EventKind → Ports
ports_of_event_block Restart = ports [] (event (codes "COLD") ∷ event (codes "WARM") ∷ event (codes "STOP") ∷ []) [] []
ports_of_event_block Split = ports (event (codes "EI") ∷ []) (event (codes "EO1") ∷ event (codes "EO2") ∷ []) [] []
ports_of_event_block Merge = ports (event (codes "EI1") ∷ event (codes "EI2") ∷ []) (event (codes "EO") ∷ []) [] []
ports_of_event_block Rendezvous =
    ports (event (codes "EI1") ∷ event (codes "EI2") ∷ event (codes "R") ∷ []) (event (codes "EO") ∷ []) [] []
ports_of_event_block Permit =
    ports (event_with (codes "EI") (codes "PERMIT" ∷ []) ∷ []) (event (codes "EO") ∷ []) (variable (codes "PERMIT") Boolean ∷ []) []
ports_of_event_block Select =
    ports (event_with (codes "EI0") (codes "G" ∷ []) ∷ event_with (codes "EI1") (codes "G" ∷ []) ∷ []) (event (codes "EO") ∷ [])
    (variable (codes "G") Boolean ∷ []) []
ports_of_event_block Switch =
    ports (event_with (codes "EI") (codes "G" ∷ []) ∷ []) (event (codes "EO0") ∷ event (codes "EO1") ∷ [])
    (variable (codes "G") Boolean ∷ []) []
ports_of_event_block Delay = timer_ports
ports_of_event_block Cycle = timer_ports
ports_of_event_block SetReset =
    ports (event (codes "S") ∷ event (codes "R") ∷ []) (event_with (codes "EO") (codes "Q" ∷ []) ∷ [])
    [] (variable (codes "Q") Boolean ∷ [])
ports_of_event_block DataLatch =
    ports (event_with (codes "CLK") (codes "D" ∷ []) ∷ []) (event_with (codes "EO") (codes "Q" ∷ []) ∷ [])
    (variable (codes "D") Boolean ∷ []) (variable (codes "Q") Boolean ∷ [])
ports_of_event_block RisingEdge = edge_ports
ports_of_event_block FallingEdge = edge_ports
ports_of_event_block CountUp =
    ports (event_with (codes "CU") (codes "PV" ∷ []) ∷ event (codes "R") ∷ [])
    (event_with (codes "CUO") (codes "Q" ∷ codes "CV" ∷ []) ∷ event_with (codes "RO") (codes "Q" ∷ codes "CV" ∷ []) ∷ [])
    (variable (codes "PV") Uint ∷ []) (variable (codes "Q") Boolean ∷ variable (codes "CV") Uint ∷ [])

-- the type names of the event blocks
abbrev pub routing_blocks : List (Name × EventKind)
routing_blocks =
    (codes "E_RESTART", Restart) ∷ (codes "E_SPLIT", Split) ∷ (codes "E_MERGE", Merge) ∷ (codes "E_REND", Rendezvous)
    ∷ (codes "E_PERMIT", Permit) ∷ (codes "E_SELECT", Select) ∷ (codes "E_SWITCH", Switch) ∷ []

abbrev pub remembering_blocks : List (Name × EventKind)
remembering_blocks =
    (codes "E_DELAY", Delay) ∷ (codes "E_CYCLE", Cycle) ∷ (codes "E_SR", SetReset) ∷ (codes "E_D_FF", DataLatch)
    ∷ (codes "E_R_TRIG", RisingEdge) ∷ (codes "E_F_TRIG", FallingEdge) ∷ (codes "E_CTU", CountUp) ∷ []

abbrev pub event_blocks : List (Name × EventKind)
event_blocks = routing_blocks ++ remembering_blocks

abbrev pub event_block_named : Name → Option EventKind
event_block_named n = option_map (λ e. e.1) (named (λ e. e.0) n event_blocks)

-- the index of a kind of event blocks among all of them
abbrev pub kind_index : EventKind → ℕ
kind_index Restart = 0
kind_index Split = 1
kind_index Merge = 2
kind_index Rendezvous = 3
kind_index Permit = 4
kind_index Select = 5
kind_index Switch = 6
kind_index Delay = 7
kind_index Cycle = 8
kind_index SetReset = 9
kind_index DataLatch = 10
kind_index RisingEdge = 11
kind_index FallingEdge = 12
kind_index CountUp = 13

-- ---- Ports of a type

abbrev pub ports_of : Kind → Ports
ports_of (Basic t) = t.ports
ports_of (Event k) = ports_of_event_block k
ports_of (Composite t) = t.ports

abbrev pub event_names : List EventPort → List Name
event_names es = map (λ e. e.name) es

abbrev pub variable_names : List Variable → List Name
variable_names vs = map (λ v. v.name) vs

-- the type of the variable at an index, and of the one with a name
abbrev pub type_at : List Variable → ℕ → Option Ty
type_at vs k = option_map (λ v. v.ty) (slice_get vs k)

abbrev pub type_named : List Variable → Name → Option Ty
type_named vs n = option_map (λ v. v.ty) (named (λ v. v.name) n vs)

-- whether an event has this name and this variable WITH it
abbrev pub goes_with : (event variable : Name) → EventPort → Bool
goes_with e v p = same_name p.name e && among p.with v

-- the variables WITH an event, in the order in which the variables are declared
abbrev pub variables_with : List EventPort → List Variable → Name → List Name
variables_with events variables e = filter (λ v. list_any (goes_with e v) events) (variable_names variables)

abbrev pub inputs_with : Ports → Name → List Name
inputs_with p = variables_with p.event_inputs p.inputs

abbrev pub outputs_with : Ports → Name → List Name
outputs_with p = variables_with p.event_outputs p.outputs

abbrev pub is_event_input : Ports → Name → Bool
is_event_input p e = among (event_names p.event_inputs) e

abbrev pub is_input : Ports → Name → Bool
is_input p v = among (variable_names p.inputs) v

-- the initial value of a variable: its declared value, else 0 or FALSE
abbrev pub initial_of : Variable → Value
initial_of v = elim v.initial [ None ↦ zero_of v.ty | Some w ↦ w ]

-- all variables of a basic type
abbrev pub variables_of : BasicType → List Variable
variables_of t = t.ports.inputs ++ t.ports.outputs ++ t.internals

abbrev pub types_of : BasicType → Types
types_of t n = elim (named (λ v. v.name) n (variables_of t)) [ None ↦ Boolean | Some v ↦ v.ty ]

-- ---- Values with their names

-- A variable with a value.
pub record Bound : Type 0 where
  pub variable : Name
  pub value : Value

-- An output event that was emitted, with the values of its WITH variables.
pub record Emission : Type 0 where
  pub event : Name
  pub values : List Bound

abbrev pub bound : List Name → Values → List Bound
bound ns vars = map (λ n. record { variable = n; value = vars n }) ns

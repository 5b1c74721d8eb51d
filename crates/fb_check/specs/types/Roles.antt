-- The meaning of the names of a block type's interface (IEC 61499-1, 5.1 and 5.2).
use Rattle.std.specs.Prelude.{List, ◌++◌, map, Bool, true, false, Option, Some, None, option_map}
use Rattle.fb_types.specs.Names.{Name}
use Rattle.fb_types.specs.Blocks.{named, event_names, variable_names}
use Rattle.fb_types.specs.declared.library.EventPort.{EventPort}
use Rattle.fb_types.specs.declared.library.Ports.{Ports}
use Rattle.fb_types.specs.declared.library.Variable.{Variable}
use Rattle.fb_types.specs.declared.value.Ty.{Ty}
use Rattle.fb_check_names.specs.declared.ports.PortKind.{PortKind}
use Rattle.fb_check_names.specs.declared.ports.PortKind.TheVariants as value_kind
use Rattle.fb_check.specs.declared.types.interface.Role.{Role}
use Rattle.fb_check.specs.declared.types.interface.Role.TheVariants.{EventInput, EventOutput, Input, Output, Internal}

-- The ports and the internal variables of a block type.
pub record Declared : Type 0 where
  pub ports : Ports
  pub internals : List Variable

-- the names in the order of the catalog
abbrev pub names_of : Declared → List Name
names_of d =
    event_names d.ports.event_inputs ++ event_names d.ports.event_outputs ++ variable_names d.ports.inputs ++ variable_names d.ports.outputs
    ++ variable_names d.internals

abbrev pub events_as : Role → List EventPort → List (Name × Role)
events_as r es = map (λ e. (e.name, r)) es

abbrev pub variables_as : (Ty → Role) → List Variable → List (Name × Role)
variables_as r vs = map (λ v. (v.name, r v.ty)) vs

-- the same names, each with what it represents
abbrev pub with_roles : Declared → List (Name × Role)
with_roles d =
    events_as EventInput d.ports.event_inputs ++ (events_as EventOutput d.ports.event_outputs ++ (variables_as (λ t. Input t) d.ports.inputs
    ++ (variables_as (λ t. Output t) d.ports.outputs ++ variables_as (λ t. Internal t) d.internals)))

abbrev pub role_of : Declared → Name → Option Role
role_of d n = option_map (λ r. r.1) (named (λ r. r.0) n (with_roles d))

abbrev pub variables_of : Declared → List Variable
variables_of d = d.ports.inputs ++ d.ports.outputs ++ d.internals

-- ---- One role

abbrev pub is_event_input : Role → Bool
is_event_input EventInput = true
is_event_input _ = false

abbrev pub is_event_output : Role → Bool
is_event_output EventOutput = true
is_event_output _ = false

abbrev pub is_input : Role → Bool
is_input (Input t) = true
is_input _ = false

abbrev pub is_output : Role → Bool
is_output (Output t) = true
is_output _ = false

abbrev pub is_port : PortKind → Role → Bool
is_port value_kind.EventInput = is_event_input
is_port value_kind.EventOutput = is_event_output
is_port value_kind.Input = is_input
is_port value_kind.Output = is_output

abbrev pub type_in : Role → Option Ty
type_in (Input t) = Some t
type_in (Output t) = Some t
type_in (Internal t) = Some t
type_in _ = None

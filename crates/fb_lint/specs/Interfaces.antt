-- Data inputs that no event samples, and ports of composite types that no connection inside names (IEC 61499-1, 5.1 and 5.3).
use Rattle.std.specs.Prelude.{ℕ, List, ◌++◌, Bool, true, false, not, ◌&&◌, ◌||◌, Option, Some, None}
use Rattle.std.specs.List.{list_any}
use Rattle.fb_types.specs.Names.{Name, same_name}
use Rattle.fb_types.specs.Blocks.{among}
use Rattle.fb_types.specs.declared.library.CompositeType.{CompositeType}
use Rattle.fb_types.specs.declared.library.Connection.{Connection}
use Rattle.fb_types.specs.declared.library.EventPort.{EventPort}
use Rattle.fb_types.specs.declared.library.Library.{Library}
use Rattle.fb_types.specs.declared.library.PortName.{PortName}
use Rattle.fb_types.specs.declared.library.Variable.{Variable}
use Rattle.fb_check_names.specs.declared.ports.PortKind.{PortKind}
use Rattle.fb_check_names.specs.declared.ports.PortKind.TheVariants as kind
use Rattle.fb_lint.specs.Findings.{when, each_from}
use Rattle.fb_lint.specs.Parameters.{is_given}
use Rattle.fb_lint.specs.declared.warning.Warning.{Warning}
use Rattle.fb_lint.specs.declared.warning.Warning.TheVariants.{UnsampledInput, UnusedPort}

-- ---- L01

abbrev pub has_with : (variable : Name) → EventPort → Bool
has_with v e = among e.with v

-- a data input is one that none of the event inputs samples, and that has no parameter at each instance of the type
abbrev pub is_never_sampled : Library → (of : Name) → List EventPort → (input : Name) → Bool
is_never_sampled lib n es v = not (list_any (has_with v) es) && not (is_given lib n v)

abbrev pub unsampled_input : Library → (of : Name) → (block : ℕ) → List EventPort → ℕ → Variable → List Warning
unsampled_input lib n b es k v = when (is_never_sampled lib n es v.name) (UnsampledInput b k)

abbrev pub unsampled_inputs : Library → (of : Name) → (block : ℕ) → List EventPort → List Variable → List Warning
unsampled_inputs lib n b es vs = each_from (unsampled_input lib n b es) 0 vs

-- ---- L11, of a composite type

abbrev pub is_boundary_end : Option Name → Bool
is_boundary_end None = true
is_boundary_end (Some c) = false

-- an end of a connection is the port of the boundary with the name
abbrev pub is_boundary : Name → PortName → Bool
is_boundary n p = is_boundary_end p.component && same_name p.port n

-- inside a composite type connections come from its inputs and lead to its outputs
abbrev pub joins : PortKind → Name → Connection → Bool
joins kind.EventInput n c = is_boundary n c.from
joins kind.EventOutput n c = is_boundary n c.to
joins kind.Input n c = is_boundary n c.from
joins kind.Output n c = is_boundary n c.to

-- a port of a composite type, by its name
abbrev pub unjoined : (block : ℕ) → PortKind → List Connection → ℕ → Name → List Warning
unjoined b p cs k n = when (not (list_any (joins p n) cs)) (UnusedPort b p k)

abbrev pub unjoined_event : (block : ℕ) → PortKind → List Connection → ℕ → EventPort → List Warning
unjoined_event b p cs k e = unjoined b p cs k e.name

abbrev pub unjoined_variable : (block : ℕ) → PortKind → List Connection → ℕ → Variable → List Warning
unjoined_variable b p cs k v = unjoined b p cs k v.name

abbrev pub unjoined_events : (block : ℕ) → PortKind → List Connection → List EventPort → List Warning
unjoined_events b p cs es = each_from (unjoined_event b p cs) 0 es

abbrev pub unjoined_variables : (block : ℕ) → PortKind → List Connection → List Variable → List Warning
unjoined_variables b p cs vs = each_from (unjoined_variable b p cs) 0 vs

-- a connection inside reads the variable
abbrev pub is_input_joined : List Connection → (variable : Name) → Bool
is_input_joined ds v = list_any (joins kind.Input v) ds

-- an event connection inside comes from the event input, or a data connection from a variable WITH it
abbrev pub is_event_used : (events values : List Connection) → EventPort → Bool
is_event_used es ds e = list_any (joins kind.EventInput e.name) es || list_any (is_input_joined ds) e.with

abbrev pub unused_event : (block : ℕ) → (events values : List Connection) → ℕ → EventPort → List Warning
unused_event b es ds k e = when (not (is_event_used es ds e)) (UnusedPort b kind.EventInput k)

abbrev pub unused_events : (block : ℕ) → (events values : List Connection) → List EventPort → List Warning
unused_events b es ds ps = each_from (unused_event b es ds) 0 ps

abbrev pub unjoined_ports : (block : ℕ) → CompositeType → List Warning
unjoined_ports b t =
    unused_events b t.network.event_connections t.network.data_connections t.ports.event_inputs
    ++ unjoined_events b kind.EventOutput t.network.event_connections t.ports.event_outputs
    ++ unjoined_variables b kind.Input t.network.data_connections t.ports.inputs
    ++ unjoined_variables b kind.Output t.network.data_connections t.ports.outputs

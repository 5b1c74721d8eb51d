-- What the numbers represent that lines, messages and emissions carry while a simulation runs (this project's profile).
use Rattle.std.specs.Prelude.{ℕ, List, [], ◌∷◌, if◌then◌else◌, Some, None, unwrap_or, slice_get}
use Rattle.fb_types.specs.Names.{Name, same_name, Path, Port}
use Rattle.fb_types.specs.Values.{Values}
use Rattle.fb_types.specs.Blocks.{ports, ports_of, event_names, variable_names, inputs_with, outputs_with, Bound, Emission}
use Rattle.fb_types.specs.Flat.{zero_value}
use Rattle.fb_types.specs.Systems.{System}
use Rattle.fb_types.specs.States.{Line}
use Rattle.fb_types.specs.declared.value.Value.{Value}
use Rattle.fb_types.specs.declared.library.EventPort.{EventPort}
use Rattle.fb_types.specs.declared.library.Ports.{Ports}
use Rattle.fb_types.specs.declared.run.Emission as run
use Rattle.fb_types.specs.declared.run.Line as run_line
use Rattle.fb_types.specs.declared.run.Carried.{Carried}
use Rattle.fb_types.specs.declared.run.Target.{Target}

-- the event at an index of a list of ports
abbrev pub event_at : List EventPort → ℕ → Name
event_at es i = unwrap_or (slice_get (event_names es) i) []

-- values, each with the name at its index
abbrev pub pair_up : List Name → List Value → List Bound
pair_up [] vs = []
pair_up (n ∷ ns) [] = []
pair_up (n ∷ ns) (v ∷ vs) = record { variable = n; value = v } ∷ pair_up ns vs

-- what the variables hold whose values are at the indexes of their names
abbrev pub by_index : List Name → List Value → Values
by_index [] vs m = zero_value
by_index (n ∷ ns) [] m = zero_value
by_index (n ∷ ns) (v ∷ vs) m = if same_name m n then v else by_index ns vs m

-- an emission of a block with these ports
abbrev pub emission_of : Ports → run.Emission → Emission
emission_of p e =
    let n = event_at p.event_outputs e.event in record { event = n; values = pair_up (outputs_with p n) e.values }

-- ---- In a system

abbrev pub path_at : System → (instance : ℕ) → Path
path_at sys i = unwrap_or (slice_get sys.paths i) []

abbrev pub ports_at : System → Path → Ports
ports_at sys p = elim (sys.kind p) [ None ↦ ports [] [] [] [] | Some k ↦ ports_of k ]

abbrev pub event_input : System → (instance event : ℕ) → Port
event_input sys i e = let p = path_at sys i in record { at = p; name = event_at (ports_at sys p).event_inputs e }

abbrev pub event_output : System → (instance event : ℕ) → Port
event_output sys i e = let p = path_at sys i in record { at = p; name = event_at (ports_at sys p).event_outputs e }

abbrev pub port_of : System → Target → Port
port_of sys t = if t.is_output then event_output sys t.instance t.event else event_input sys t.instance t.event

abbrev pub carried_of : System → Carried → Port × Value
carried_of sys c =
    let p = path_at sys c.instance in
    (record { at = p; name = unwrap_or (slice_get (variable_names (ports_at sys p).outputs) c.variable) [] }, c.value)

abbrev pub line_of : System → run_line.Line → Line
line_of sys l =
    let p = path_at sys l.instance in
    let its = ports_at sys p in
    let n = if l.taken then event_at its.event_inputs l.event else event_at its.event_outputs l.event in
    record {
      key = l.key;
      taken = l.taken;
      at = p;
      event = n;
      values = pair_up (if l.taken then inputs_with its n else outputs_with its n) l.values;
    }

-- The signals of a system: the event ports and the variables of its instances, each with a number (this project's profile).
use Rattle.std.specs.Prelude.{ℕ, ◌+◌, List, [], ◌∷◌, length, take, Bool, if◌then◌else◌}
use Rattle.fb_types.specs.Names.{Path}
use Rattle.fb_types.specs.Systems.{System}
use Rattle.fb_types.specs.Numbers.{path_at, ports_at}
use Rattle.fb_types.specs.declared.library.Ports.{Ports}

-- how many signals an instance has: its event inputs, then event outputs, inputs and outputs
abbrev pub size_of : Ports → ℕ
size_of its = length its.event_inputs + length its.event_outputs + length its.inputs + length its.outputs

-- how many signals the instances at some paths have
abbrev pub sizes_of : System → List Path → ℕ
sizes_of sys [] = 0
sizes_of sys (p ∷ ps) = size_of (ports_at sys p) + sizes_of sys ps

-- the number of the first signal of an instance: the instances before it have those before
abbrev pub first_signal : System → (instance : ℕ) → ℕ
first_signal sys i = sizes_of sys (take i sys.paths)

-- the number of an event input, or of an event output
abbrev pub event_signal : System → (instance : ℕ) → (taken : Bool) → (event : ℕ) → ℕ
event_signal sys i taken e =
    first_signal sys i + (if taken then e else length (ports_at sys (path_at sys i)).event_inputs + e)

-- the number of the first data input, or of the first data output
abbrev pub first_variable : System → (instance : ℕ) → (is_input : Bool) → ℕ
first_variable sys i is_input =
    let its = ports_at sys (path_at sys i) in
    first_signal sys i + length its.event_inputs + length its.event_outputs + (if is_input then 0 else length its.inputs)

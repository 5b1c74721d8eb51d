-- The head of a value change dump: the scopes, the signals in them, and what these begin with (IEEE 1364-2005, 18.2).
use Rattle.std.specs.Prelude.{ℕ, suc, zero, ◌+◌, ◌-◌, ◌==◌, List, [], ◌∷◌, ◌++◌, length, Bool, if◌then◌else◌, codes}
use Rattle.std.specs.List.{list_any}
use Rattle.fb_types.specs.Names.{Name, Path}
use Rattle.fb_types.specs.Blocks.{among}
use Rattle.fb_types.specs.Systems.{System}
use Rattle.fb_types.specs.Numbers.{ports_at}
use Rattle.fb_types.specs.declared.library.EventPort.{EventPort}
use Rattle.fb_types.specs.declared.library.Ports.{Ports}
use Rattle.fb_types.specs.declared.library.Variable.{Variable}
use Rattle.fb_types.specs.declared.value.Ty.{Ty}
use Rattle.fb_types.specs.declared.value.Ty.TheVariants.{Bool as Boolean}
use Rattle.fb_types.specs.declared.value.Value.{Value}
use Rattle.fb_wave.specs.declared.signals.HeadPart.{HeadPart}
use Rattle.fb_wave.specs.declared.signals.HeadPart.TheVariants.{Declarations, Beginnings}
use Rattle.fb_wave.specs.Changes.{line, event_code, count_code, variable_code, value_changed}
use Rattle.fb_wave.specs.Signals.{size_of}

-- ---- Declarations of signals

abbrev pub declares : (kind code name : List ℕ) → List ℕ
declares kind code name = line (codes "$var " ++ kind ++ codes " " ++ code ++ codes " " ++ name ++ codes " $end")

-- An event port is an event, and next to it a count. No name of a declaration has letters in lower case.
abbrev pub event_declared : ℕ → Name → List ℕ
event_declared s n =
    declares (codes "event 1") (event_code s) n ++ declares (codes "reg 64") (count_code s) (n ++ codes "_count")

-- a truth value is a wire
abbrev pub variable_kind : Ty → List ℕ
variable_kind Boolean = codes "wire 1"
variable_kind _ = codes "reg 64"

abbrev pub variable_declared : ℕ → Name → Ty → List ℕ
variable_declared s n ty = declares (variable_kind ty) (variable_code s) n

-- ---- What signals begin with

-- no event yet
abbrev pub event_begun : ℕ → List ℕ
event_begun s = line (codes "b0 " ++ count_code s)

-- a variable begins with its initial value
abbrev pub variable_begun : (initial : Name → Value) → ℕ → Name → Ty → List ℕ
variable_begun initial s n ty = value_changed s (initial n)

-- which text of an event this is, in each of the two parts of the head
abbrev pub event_in : HeadPart → ℕ → Name → List ℕ
event_in Declarations = event_declared
event_in Beginnings = λ s n. event_begun s

-- ---- The signals of an interface, by the text of an event and that of a variable

-- events, the first with this number
abbrev pub event_declarations : (ℕ → Name → List ℕ) → ℕ → List EventPort → List ℕ
event_declarations event s [] = []
event_declarations event s (e ∷ es) = event s e.name ++ event_declarations event (s + 1) es

-- a variable that lines carry is one WITH an event
abbrev pub is_carried : List EventPort → Variable → Bool
is_carried es v = list_any (λ e. among e.with v.name) es

abbrev pub carried_declarations : (ℕ → Name → Ty → List ℕ) → List EventPort → ℕ → Variable → List ℕ
carried_declarations variable es s v = if is_carried es v then variable s v.name v.ty else []

-- variables, the first with this number
abbrev pub variable_declarations : (ℕ → Name → Ty → List ℕ) → List EventPort → ℕ → List Variable → List ℕ
variable_declarations variable es s [] = []
variable_declarations variable es s (v ∷ vs) = carried_declarations variable es s v ++ variable_declarations variable es (s + 1) vs

-- the signals of an interface, the first with this number
abbrev pub port_declarations : (ℕ → Name → List ℕ) → (ℕ → Name → Ty → List ℕ) → ℕ → Ports → List ℕ
port_declarations event variable s its =
    let outs = s + length its.event_inputs in
    let ins = outs + length its.event_outputs in
    event_declarations event s its.event_inputs ++ event_declarations event outs its.event_outputs
    ++ variable_declarations variable its.event_inputs ins its.inputs ++ variable_declarations variable its.event_outputs (ins + length its.inputs) its.outputs

abbrev pub ports_declared : ℕ → Ports → List ℕ
ports_declared s its = port_declarations (event_in Declarations) variable_declared s its

abbrev pub ports_begun : (initial : Name → Value) → ℕ → Ports → List ℕ
ports_begun initial s its = port_declarations (event_in Beginnings) (variable_begun initial) s its

-- ---- Scopes

abbrev pub opened : Name → List ℕ
opened n = line (codes "$scope module " ++ n ++ codes " $end")

-- this many scopes are closed
abbrev pub closed : ℕ → List ℕ
closed zero = []
closed (suc k) = line (codes "$upscope $end") ++ closed k

-- the name of an instance among those next to it
abbrev pub own_name : Path → Name
own_name [] = []
own_name (n ∷ p) = n

-- The instances of a resource, where this many scopes of instances are open. Each is in the scope of its composite, which
-- comes before it: the scopes are nested as the networks are (`specs/Nested`: `AreNested`).
abbrev pub instances_declared : System → (resource depth first : ℕ) → List Path → List ℕ
instances_declared sys r depth s [] = closed depth
instances_declared sys r depth s (p ∷ ps) =
    let its = ports_at sys p in
    if sys.resource p == r
    then closed (depth + 1 - length p) ++ opened (own_name p) ++ ports_declared s its ++ instances_declared sys r (length p) (s + size_of its) ps
    else instances_declared sys r depth (s + size_of its) ps

-- resources, the first with this number
abbrev pub resources_declared : System → ℕ → List Name → List ℕ
resources_declared sys r [] = []
resources_declared sys r (n ∷ ns) =
    opened n ++ instances_declared sys r 0 0 sys.paths ++ closed 1 ++ resources_declared sys (r + 1) ns

-- ---- Beginnings

-- the initial values of an instance's variables: the parameter, else the declared value, else 0 or FALSE
abbrev pub initial_in : System → Path → Name → Value
initial_in sys p n = sys.initial (record { at = p; name = n })

abbrev pub instances_begun : System → ℕ → List Path → List ℕ
instances_begun sys s [] = []
instances_begun sys s (p ∷ ps) = let its = ports_at sys p in ports_begun (initial_in sys p) s its ++ instances_begun sys (s + size_of its) ps

-- ---- The head

abbrev pub head_text : System → List ℕ
head_text sys =
    line (codes "$timescale 1 ms $end") ++ resources_declared sys 0 sys.resource_names ++ line (codes "$enddefinitions $end")
    ++ line (codes "#0") ++ line (codes "$dumpvars") ++ instances_begun sys 0 sys.paths ++ line (codes "$end")

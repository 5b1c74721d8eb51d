-- The texts that say what is wrong with a line of a trace (this project's own).
use Rattle.std.specs.Prelude.{ℕ, ◌-◌, List, [], ◌∷◌, ◌++◌, map, take, drop, length, Bool, if◌then◌else◌, nat_lt, codes, decimal}
use Rattle.std.specs.Str.{bytes_eq}
use Rattle.fb_types.specs.Names.{Name}
use Rattle.fb_types.specs.Numbers.{emission_of, event_at, path_at, ports_at}
use Rattle.fb_types.specs.Blocks.{Bound}
use Rattle.fb_types.specs.Systems.{System}
use Rattle.fb_types.specs.Text.{path_text, reason_text, value_text}
use Rattle.fb_types.specs.declared.library.EventPort.{EventPort}
use Rattle.fb_types.specs.declared.library.Variable.{Variable}
use Rattle.fb_types.specs.declared.run.Emission as run
use Rattle.fb_types.specs.declared.value.Ty.{Ty}
use Rattle.fb_types.specs.declared.value.Ty.TheVariants as ty
use Rattle.fb_types.specs.declared.value.Value.{Value}
use Rattle.fb_trace.specs.declared.last.Outcome.{Outcome}
use Rattle.fb_trace.specs.declared.last.Outcome.TheVariants as outcome
use Rattle.fb_wave.specs.Ports.{events, holder_name}
use Rattle.fb_wave.specs.Reading.{name_at, type_at}
use Rattle.fb_wave.specs.declared.ports.Port.{Port}
use Rattle.fb_inspect.specs.refused.LineFaults.{variables}
use Rattle.fb_inspect.specs.declared.refused.finding.Finding.{Finding}
use Rattle.fb_inspect.specs.declared.refused.finding.Finding.TheVariants as why
use Rattle.fb_inspect.specs.declared.refused.line_fault.LineFault.{LineFault}
use Rattle.fb_inspect.specs.declared.refused.line_fault.LineFault.TheVariants as line
use Rattle.fb_inspect.specs.declared.refused.line_fault.PortFault.{PortFault}
use Rattle.fb_inspect.specs.declared.refused.line_fault.PortFault.TheVariants as port
use Rattle.fb_inspect.specs.declared.refused.line_fault.ValueFault.{ValueFault}
use Rattle.fb_inspect.specs.declared.refused.line_fault.ValueFault.TheVariants as value

-- ---- Parts of texts

-- a byte as it is shown: a question mark for all but printable ASCII characters
abbrev pub shown_byte : ℕ → ℕ
shown_byte b = if nat_lt b 32 then 63 else (if nat_lt 126 b then 63 else b)

abbrev pub shown : List ℕ → List ℕ
shown bs = map shown_byte bs

-- a part of a line between quotes, at most 60 bytes of it
abbrev pub quoted : List ℕ → List ℕ
quoted bs = 34 ∷ (if nat_lt 60 (length bs) then shown (take 60 bs) ++ (34 ∷ codes "..") else shown bs ++ 34 ∷ [])

-- a text without the line feed that it ends in, if it does
abbrev pub without_feed : List ℕ → List ℕ
without_feed bs = if bytes_eq (drop (length bs - 1) bs) (10 ∷ []) then take (length bs - 1) bs else bs

-- a tick after words, and another one after other words
abbrev pub two_ticks : (words : List ℕ) → (tick : ℕ) → (more : List ℕ) → (other : ℕ) → List ℕ
two_ticks words tick more other = words ++ decimal tick ++ more ++ decimal other

abbrev pub type_word : Ty → List ℕ
type_word ty.Sint = codes "SINT"
type_word ty.Int = codes "INT"
type_word ty.Dint = codes "DINT"
type_word ty.Lint = codes "LINT"
type_word ty.Usint = codes "USINT"
type_word ty.Uint = codes "UINT"
type_word ty.Udint = codes "UDINT"
type_word ty.Ulint = codes "ULINT"
type_word ty.Time = codes "TIME"
type_word ty.Bool = codes "BOOL"

-- ---- Parts of a system. Nothing is shown of what it does not have.

abbrev pub event_text : List EventPort → (event : ℕ) → List ℕ
event_text es e = if nat_lt e (length es) then shown (event_at es e) else []

-- the name and the type of a variable
abbrev pub variable_text : List Variable → (index : ℕ) → List ℕ
variable_text vs k = if nat_lt k (length vs) then shown (name_at vs k) ++ codes " (" ++ type_word (type_at vs k) ++ codes ")" else []

abbrev pub instance_text : System → (instance : ℕ) → List ℕ
instance_text sys i = if nat_lt i (length sys.paths) then codes "instance " ++ shown (path_text (path_at sys i)) else []

-- an instance, and its resource
abbrev pub elsewhere_text : System → (instance : ℕ) → List ℕ
elsewhere_text sys i =
    if nat_lt i (length sys.paths) then
    instance_text sys i ++ (if nat_lt (sys.resource (path_at sys i)) (length sys.resource_names) then codes " is in resource " ++ shown (holder_name sys i) else [])
    else []

-- values, each with the name of its variable
abbrev pub binding_text : Name → Value → List ℕ
binding_text n v = codes " " ++ shown n ++ codes "=" ++ value_text v

abbrev pub bindings_text : List Bound → List ℕ
bindings_text [] = []
bindings_text (b ∷ bs) = binding_text b.variable b.value ++ bindings_text bs

-- an event that an instance emits, as a line has it
abbrev pub emission_text : System → (instance : ℕ) → run.Emission → List ℕ
emission_text sys i e =
    let its = ports_at sys (path_at sys i) in
    if nat_lt i (length sys.paths) then
    shown (path_text (path_at sys i))
    ++ (if nat_lt e.event (length its.event_outputs) then codes "." ++ shown (emission_of its e).event ++ bindings_text (emission_of its e).values else [])
    else []

-- ---- Why no run gives a line

-- too many steps were used after the event of an earlier line
abbrev pub excess_text : (line : ℕ) → List ℕ
excess_text n = codes "the resource of line " ++ decimal n ++ codes " uses more steps in that tick than it has"

-- nothing where the reactions do not tell
abbrev pub finding_text : System → Finding → List ℕ
finding_text sys why.Line = []
finding_text sys (why.Emits i e) = codes "the reaction emits " ++ emission_text sys i e ++ codes " here"
finding_text sys why.Unmade = codes "the block does not emit this event here"
finding_text sys why.NotDue = codes "the timer of the block does not emit this event in this tick"
finding_text sys why.Late = codes "no run has so late a tick"
finding_text sys why.NoStep = codes "the resource uses more steps in this tick than it has"
finding_text sys (why.Excess n) = excess_text n
finding_text sys (why.Stops reason) = codes "the reaction stops the resource here: " ++ shown (reason_text reason)
finding_text sys why.Runs = codes "nothing stops the resource here"

-- ---- What is wrong with a line

-- an end that may not come after this tick
abbrev pub early_text : (tick : ℕ) → Outcome → List ℕ
early_text tick (outcome.End horizon) = two_ticks (codes "end ") horizon (codes " is not after tick ") tick
early_text tick (outcome.Stop m) = two_ticks (codes "a stop in tick ") m.tick (codes " comes after tick ") tick

abbrev pub no_event_words : (taken : Bool) → List ℕ
no_event_words taken = if taken then codes " has no event input " else codes " has no event output "

-- what is wrong with the values of a port
abbrev pub port_value_text : (vs : List Variable) (es : List EventPort) → Port → ValueFault → List ℕ
port_value_text vs es p (value.Variable name) = quoted name.now ++ codes " is no variable WITH " ++ event_text es p.event
port_value_text vs es p (value.Missing k) = codes "there is no value of " ++ variable_text vs k
port_value_text vs es p (value.Value k v) = quoted v.now ++ codes " is no value of " ++ variable_text vs k
port_value_text vs es p (value.More rest) = codes "after the event and its values comes " ++ quoted (without_feed rest.now)

abbrev pub value_fault_text : System → Port → ValueFault → List ℕ
value_fault_text sys p fault =
    let its = ports_at sys (path_at sys p.instance) in
    if nat_lt p.instance (length sys.paths) then port_value_text (variables its p.taken) (events its p.taken) p fault else []

-- what is wrong after the tick of a line
abbrev pub port_fault_text : System → PortFault → List ℕ
port_fault_text sys port.Short = codes "after the tick come a resource, > or <, and an instance with an event"
port_fault_text sys (port.Resource name) = codes "there is no resource " ++ quoted name.now
port_fault_text sys (port.Sign sign) = quoted sign.now ++ codes " is neither > nor <"
port_fault_text sys (port.NoEvent word) = quoted word.now ++ codes " is no instance with an event"
port_fault_text sys (port.Instance path) = codes "there is no instance " ++ quoted path.now
port_fault_text sys (port.Event i taken name) = instance_text sys i ++ no_event_words taken ++ quoted name.now
port_fault_text sys (port.Elsewhere p) = elsewhere_text sys p.instance
port_fault_text sys (port.Values p fault) = value_fault_text sys p fault

-- what is wrong with a line after one in this tick
abbrev pub fault_text : System → (tick : ℕ) → LineFault → List ℕ
fault_text sys tick line.AfterEnd = codes "the trace has ended before it"
fault_text sys tick line.Missing = codes "the trace has no last line"
fault_text sys tick line.Unended = codes "it does not end in a line feed"
fault_text sys tick (line.Early end) = early_text tick end
fault_text sys tick line.NoEnd = codes "it is no last line of this system"
fault_text sys tick line.Key = codes "it does not begin with a class and two numbers of a key"
fault_text sys tick line.Tick = codes "it does not begin with a tick"
fault_text sys tick (line.Falls now) = two_ticks (codes "tick ") now (codes " comes after tick ") tick
fault_text sys tick (line.Port fault) = port_fault_text sys fault

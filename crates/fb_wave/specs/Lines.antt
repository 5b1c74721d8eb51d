-- What is read of a trace: lines that the system can give, and an end (this project's profile).
use Rattle.std.specs.Prelude.{◌≡◌, ◌<◌, ℕ, ◌^◌, ◌++◌, List, [], ◌∷◌, length, map, true, if◌then◌else◌, codes, decimal}
use Rattle.fb_types.specs.Blocks.{inputs_with, outputs_with}
use Rattle.fb_types.specs.Names.{Name}
use Rattle.fb_types.specs.Numbers.{event_at, line_of, pair_up, path_at, ports_at}
use Rattle.fb_types.specs.Simulation.{Ending, AtHorizon, AtStop}
use Rattle.fb_types.specs.Systems.{System}
use Rattle.fb_types.specs.Text.{last_line, line_text, tick_and_resource_text, reason_text, values_text}
use Rattle.fb_types.specs.declared.key.Key.{Key}
use Rattle.fb_types.specs.declared.library.Variable.{Variable}
use Rattle.fb_types.specs.declared.run.Form.{Form}
use Rattle.fb_types.specs.declared.run.Form.TheVariants.{One, Two}
use Rattle.fb_types.specs.declared.run.Line.{Line}
use Rattle.fb_types.specs.declared.run.StopMark.{StopMark}
use Rattle.fb_types.specs.declared.value.Reason.{Reason}
use Rattle.fb_types.specs.declared.value.Value.{Value}
use Rattle.fb_wave.specs.Ports.{side}
use Rattle.fb_wave.specs.declared.line.Parts.{Parts}
use Rattle.fb_wave.specs.declared.ports.Port.{Port}
use Rattle.fb_system.specs.IndexLists.{AreIndexes}
use Rattle.fb_system.specs.Lines.{BelongsTo, line_variables}
use Rattle.fb_trace.specs.End.{EndsIn, ending_of}
use Rattle.fb_trace.specs.declared.last.Outcome.{Outcome}
use Rattle.fb_wave.specs.Reading.{fit_each, type_at}

-- the variables among which those of a line are
abbrev pub line_side : System → Line → List Variable
line_side sys l = let its = ports_at sys (path_at sys l.instance) in if l.taken then its.inputs else its.outputs

-- The numbers of a key are those that lines have room for.
pub record IsInRange (k : Key) : Type 0 where
  pub tick : k.tick < 2 ^ 64
  pub class : k.class < 2 ^ 8
  pub a : k.a < 2 ^ 128
  pub b : k.b < 2 ^ 128

-- A line that the system can give: its numbers are those that lines have room for and represent something in the system,
-- the resource is that of the instance, and each value is one of its variable's type.
pub record IsLineOf (sys : System) (l : Line) : Type 0 where
  pub range : IsInRange l.key
  pub small : l.event < 2 ^ 32
  pub belongs : BelongsTo sys l
  pub held : l.key.resource ≡ sys.resource (path_at sys l.instance)
  pub indexes : List ℕ
  pub stand : AreIndexes (line_side sys l) (line_variables sys l) indexes
  pub typed : fit_each (map (type_at (line_side sys l)) indexes) l.values ≡ true

-- ---- Parts of a line

-- A text is what a line begins with in a form, and a rest.
abbrev pub IsHead : Form → (text : List ℕ) → Parts → (rest : List ℕ) → Type 0
IsHead One text p rest = text ≡ rest
IsHead Two text p rest = text ≡ (decimal p.class ++ codes " " ++ decimal p.a ++ codes " " ++ decimal p.b ++ codes " ") ++ rest

-- the parts of a key that lines have room for
pub record AreInRange (p : Parts) : Type 0 where
  pub class : p.class < 2 ^ 8
  pub a : p.a < 2 ^ 128
  pub b : p.b < 2 ^ 128

-- The text is nothing that a line begins with in a form.
abbrev pub HasNoHead : Form → (text : List ℕ) → Type 0
HasNoHead form text = (p : Parts) (rest : List ℕ) → AreInRange p → IsHead form text p rest → ⊥

-- the variables WITH a port, and those among which they are
abbrev pub port_side : System → Port → List Variable
port_side sys p = let its = ports_at sys (path_at sys p.instance) in if p.taken then its.inputs else its.outputs

abbrev pub port_variables : System → Port → List Name
port_variables sys p =
    let its = ports_at sys (path_at sys p.instance) in
    let n = event_at (side sys p.instance p.taken) p.event in
    if p.taken then inputs_with its n else outputs_with its n

-- A text is that of the values of a line of a port, and a line feed.
pub record AreValuesOf (sys : System) (p : Port) (text : List ℕ) (values : List Value) : Type 0 where
  pub indexes : List ℕ
  pub stand : AreIndexes (port_side sys p) (port_variables sys p) indexes
  pub typed : fit_each (map (type_at (port_side sys p)) indexes) values ≡ true
  pub counted : length values ≡ length (port_variables sys p)
  pub parts : text ≡ values_text (pair_up (port_variables sys p) values) ++ 10 ∷ []

abbrev pub AreNoValuesOf : (sys : System) → Port → List ℕ → Type 0
AreNoValuesOf sys p text = (values : List Value) → AreValuesOf sys p text values → ⊥

-- ---- Lines

-- The text is that of the line in a form.
pub record IsTextOf (sys : System) (form : Form) (l : Line) (text : List ℕ) : Type 0 where
  pub line : IsLineOf sys l
  pub is : text ≡ line_text form sys (line_of sys l)

abbrev pub IsNoTextOf : (sys : System) (form : Form) → List ℕ → Type 0
IsNoTextOf sys form text = (l : Line) → IsTextOf sys form l text → ⊥

-- an end that the system can have
abbrev pub IsEndOf : System → Ending → Type 0
IsEndOf sys (AtHorizon h) = h < 2 ^ 64
IsEndOf sys (AtStop k r reason) = (k < 2 ^ 64) × (r < length sys.resource_names)

-- The text is that of no end of the system.
abbrev pub IsNoLast : System → List ℕ → Type 0
IsNoLast sys text = (end : Ending) → IsEndOf sys end → text ≡ last_line sys end → ⊥

-- The text is that of an end of the system.
pub record IsLast (sys : System) (text : List ℕ) (end : Outcome) : Type 0 where
  pub ends : EndsIn sys end
  pub can : IsEndOf sys (ending_of end)
  pub is : text ≡ last_line sys (ending_of end)

-- what the last line of a trace has after its first word where a resource stopped
abbrev pub stop_text : System → (tick resource : ℕ) → Reason → List ℕ
stop_text sys k r reason = tick_and_resource_text sys k r ++ codes " " ++ reason_text reason ++ 10 ∷ []

-- A text says that a resource of the system stopped.
pub record IsStop (sys : System) (text : List ℕ) (mark : StopMark) : Type 0 where
  pub tick : mark.tick < 2 ^ 64
  pub within : mark.resource < length sys.resource_names
  pub is : text ≡ stop_text sys mark.tick mark.resource mark.reason

-- The text has no stop of a resource of the system.
abbrev pub IsNoStop : System → List ℕ → Type 0
IsNoStop sys text = (k r : ℕ) (reason : Reason) → k < 2 ^ 64 → r < length sys.resource_names → text ≡ stop_text sys k r reason → ⊥

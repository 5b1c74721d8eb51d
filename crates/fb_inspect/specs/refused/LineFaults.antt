-- What is wrong with a line of a trace (this project's own).
use Rattle.std.specs.Prelude.{◌≡◌, ◌≢◌, ◌==◌, ◌<◌, ◌≤◌, ◌^◌, ◌⊎◌, ℕ, List, [], ◌∷◌, ◌++◌, length, map, take, Bool, true, false, not, All, if◌then◌else◌, codes, slice_index, slice_index_or}
use Rattle.std.specs.List.{list_all}
use Rattle.fb_types.specs.Names.{Name}
use Rattle.fb_types.specs.Numbers.{event_at, pair_up, path_at}
use Rattle.fb_types.specs.Systems.{System}
use Rattle.fb_types.specs.Text.{path_text, values_text}
use Rattle.fb_types.specs.declared.library.EventPort.{EventPort}
use Rattle.fb_types.specs.declared.library.Ports.{Ports}
use Rattle.fb_types.specs.declared.library.Variable.{Variable}
use Rattle.fb_types.specs.declared.run.Line.{Line}
use Rattle.fb_types.specs.declared.value.Value.{Value}
use Rattle.fb_system.specs.IndexLists.{AreIndexes}
use Rattle.fb_trace.specs.declared.last.Outcome.{Outcome}
use Rattle.fb_wave.specs.Copying.{IsAfter}
use Rattle.fb_wave.specs.CutOff.{is_unended}
use Rattle.fb_wave.specs.Lines.{AreValuesOf, HasNoHead, IsHead, IsLast, IsNoLast, IsTextOf, port_side, port_variables}
use Rattle.fb_wave.specs.Named.{HasNames}
use Rattle.fb_wave.specs.Ports.{BeginsWith, IsPortOf, holder_name, side}
use Rattle.fb_wave.specs.Reading.{HasNoNumber, IsNoValue, IsUnbound, fit_each, name_at, number_text, type_at}
use Rattle.fb_wave.specs.Words.{AreThree, HasNoThree, is_ended}
use Rattle.fb_wave.specs.declared.current_line.CurrentLine.{CurrentLine}
use Rattle.fb_wave.specs.declared.line.Parts.{Parts}
use Rattle.fb_wave.specs.declared.ports.Port.{Port}
use Rattle.fb_inspect.specs.declared.refused.line_fault.LineFault.{LineFault}
use Rattle.fb_inspect.specs.declared.refused.line_fault.LineFault.TheVariants as line
use Rattle.fb_inspect.specs.declared.refused.line_fault.PortFault.{PortFault}
use Rattle.fb_inspect.specs.declared.refused.line_fault.PortFault.TheVariants as port
use Rattle.fb_inspect.specs.declared.refused.line_fault.ValueFault.{ValueFault}
use Rattle.fb_inspect.specs.declared.refused.line_fault.ValueFault.TheVariants as value

-- ---- Names

-- No resource has this name, no instance this path, and no event of these, of which lines have room for the number, this name.
abbrev pub IsNoResource : System → Name → Type 0
IsNoResource sys n = (r : ℕ) → r < length sys.resource_names → n ≡ slice_index_or sys.resource_names r [] → ⊥

abbrev pub IsNoInstance : System → List ℕ → Type 0
IsNoInstance sys path = (i : ℕ) → i < length sys.paths → path ≡ path_text (path_at sys i) → ⊥

abbrev pub IsNoEvent : List EventPort → Name → Type 0
IsNoEvent es n = (e : ℕ) → e < length es → e < 2 ^ 32 → n ≡ event_at es e → ⊥

-- what a line has between its resource and its instance: the sign of an event that was taken, or of one that was emitted
abbrev pub sign_text : (taken : Bool) → List ℕ
sign_text taken = if taken then codes ">" else codes "<"

abbrev pub IsNoSign : List ℕ → Type 0
IsNoSign text = (taken : Bool) → text ≡ sign_text taken → ⊥

-- what a line of a port has after its sign, and what it has with an event of this name
abbrev pub path_and : System → (instance : ℕ) → Name → List ℕ
path_and sys i n = path_text (path_at sys i) ++ 46 ∷ n

abbrev pub path_event : System → Port → List ℕ
path_event sys p = path_and sys p.instance (event_at (side sys p.instance p.taken) p.event)

-- ---- Values

-- the data inputs of an interface, or its data outputs
abbrev pub variables : Ports → (taken : Bool) → List Variable
variables its taken = if taken then its.inputs else its.outputs

-- A text begins with values of the first variables, this many, and then comes the rest.
pub record HasFirst (vs : List Variable) (ks : List ℕ) (text : List ℕ) (count : ℕ) (rest : List ℕ) : Type 0 where
  pub values : List Value
  pub counted : length values ≡ count
  pub typed : fit_each (map (type_at vs) (take count ks)) values ≡ true
  pub parts : text ≡ values_text (pair_up (map (name_at vs) (take count ks)) values) ++ rest

-- A text begins with a name and a value, whatever they are.
pub record IsNamed (text name value rest : List ℕ) : Type 0 where
  pub parts : text ≡ 32 ∷ ((name ++ 61 ∷ value) ++ rest)
  pub ended : is_ended rest ≡ true

-- This variable has this number among these indexes.
pub record IsVariableAt (vs : List Variable) (ks : List ℕ) (number k : ℕ) : Type 0 where
  pub listed : number < length ks
  pub is : k ≡ slice_index ks number
  pub within : k < length vs

-- None of the variables at these indexes has this name.
abbrev pub IsNoVariable : List Variable → List ℕ → Name → Type 0
IsNoVariable vs ks n = All (λ k. name_at vs k ≢ n) ks

abbrev pub IsValueFault : List Variable → List ℕ → (text : List ℕ) → ValueFault → Type 0
IsValueFault vs ks text (value.Variable n) =
    (count : ℕ) × (here : List ℕ) × (rest : List ℕ) × (v : List ℕ) × HasFirst vs ks text count here × IsNamed here n.now v rest × IsNoVariable vs ks n.now
IsValueFault vs ks text (value.Missing k) =
    (number : ℕ) × (here : List ℕ) × IsVariableAt vs ks number k × HasFirst vs ks text number here × IsUnbound (name_at vs k) (type_at vs k) here
IsValueFault vs ks text (value.Value k v) =
    (number : ℕ) × (here : List ℕ) × (rest : List ℕ) × IsVariableAt vs ks number k × HasFirst vs ks text number here × IsNamed here (name_at vs k) v.now rest
    × IsNoValue (type_at vs k) v.now
IsValueFault vs ks text (value.More rest) = HasFirst vs ks text (length ks) rest.now × (rest.now ≢ 10 ∷ [])

-- The same of the variables WITH a port.
abbrev pub IsPortValueFault : System → Port → (text : List ℕ) → ValueFault → Type 0
IsPortValueFault sys p text fault = (ks : List ℕ) × AreIndexes (port_side sys p) (port_variables sys p) ks × IsValueFault (port_side sys p) ks text fault

-- ---- What comes after a tick

-- What is true of the text after the tick of a line.
abbrev pub IsPortFault : System → (text : List ℕ) → PortFault → Type 0
IsPortFault sys text port.Short = HasNoThree text
IsPortFault sys text (port.Resource n) = (v : List ℕ) × (w : List ℕ) × (rest : List ℕ) × AreThree text n.now v w rest × IsNoResource sys n.now
IsPortFault sys text (port.Sign s) = (u : List ℕ) × (w : List ℕ) × (rest : List ℕ) × AreThree text u s.now w rest × IsNoSign s.now
IsPortFault sys text (port.NoEvent w) =
    (u : List ℕ) × (v : List ℕ) × (rest : List ℕ) × AreThree text u v w.now rest × (list_all (λ b. not (b == 46)) w.now ≡ true)
IsPortFault sys text (port.Instance path) =
    (u : List ℕ) × (v : List ℕ) × (e : List ℕ) × (rest : List ℕ) × AreThree text u v (path.now ++ 46 ∷ e) rest × IsNoInstance sys path.now
IsPortFault sys text (port.Event i taken n) =
    (u : List ℕ) × (rest : List ℕ) × AreThree text u (sign_text taken) (path_and sys i n.now) rest × (i < length sys.paths) × IsNoEvent (side sys i taken) n.now
IsPortFault sys text (port.Elsewhere p) =
    (u : List ℕ) × (rest : List ℕ) × AreThree text u (sign_text p.taken) (path_event sys p) rest × IsPortOf sys p × (holder_name sys p.instance ≢ u)
IsPortFault sys text (port.Values p fault) = (rest : List ℕ) × BeginsWith sys text p rest × IsPortValueFault sys p rest fault

-- The text is that of a port with its values.
pub record IsOfPort (sys : System) (text : List ℕ) : Type 0 where
  pub port : Port
  pub rest : List ℕ
  pub begins : BeginsWith sys text port rest
  pub values : List Value
  pub are : AreValuesOf sys port rest values

-- ---- Lines

-- What is true of the line that was read last, and of what was known before it.
abbrev pub Applies : System → CurrentLine → LineFault → Type 0
Applies sys x line.AfterEnd = x.after_end ≡ true
Applies sys x line.Missing = x.text.items ≡ []
Applies sys x line.Unended = is_unended x.text.items ≡ true
Applies sys x (line.Early end) = IsLast sys x.text.items end × ¬ (IsAfter x.tick end)
Applies sys x line.NoEnd = HasNames sys → IsNoLast sys x.text.items
Applies sys x line.Key = HasNoHead x.form x.text.items
Applies sys x line.Tick = (p : Parts) × (rest : List ℕ) × IsHead x.form x.text.items p rest × HasNoNumber (2 ^ 64) rest
Applies sys x (line.Falls t) = (p : Parts) × (rest : List ℕ) × IsHead x.form x.text.items p (number_text t ++ rest) × (t < x.tick)
Applies sys x (line.Port fault) =
    (p : Parts) × (t : ℕ) × (rest : List ℕ) × IsHead x.form x.text.items p (number_text t ++ rest) × IsPortFault sys rest fault

-- The line is one with which a trace of the system can go on after what was known before it: a line of an event, or an end.
pub record IsLineNext (sys : System) (x : CurrentLine) : Type 0 where
  pub line : Line
  pub is : IsTextOf sys x.form line x.text.items
  pub rises : x.tick ≤ line.key.tick

pub record IsEndNext (sys : System) (x : CurrentLine) : Type 0 where
  pub end : Outcome
  pub is : IsLast sys x.text.items end
  pub after : IsAfter x.tick end

pub record CanGoOn (sys : System) (x : CurrentLine) : Type 0 where
  pub inside : x.after_end ≡ false
  pub next : IsLineNext sys x ⊎ IsEndNext sys x

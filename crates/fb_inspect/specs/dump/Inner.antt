-- What a dump has of the inside of basic blocks: the state, the internal variables, and lost events (this project's profile).
use Rattle.std.specs.Prelude.{ℕ, List, [], ◌++◌, Bool, true, false, if◌then◌else◌, Option, Some, None, codes, decimal}
use Rattle.std.specs.List.{list_any}
use Rattle.fb_types.specs.Blocks.{Kind, Basic, Event, Composite, variable_names}
use Rattle.fb_types.specs.Names.{Name, Path, same_name}
use Rattle.fb_types.specs.Reactions.{state_of}
use Rattle.fb_types.specs.Systems.{System}
use Rattle.fb_types.specs.Values.{same_value}
use Rattle.fb_types.specs.declared.library.BasicType.{BasicType}
use Rattle.fb_types.specs.declared.library.Variable.{Variable}
use Rattle.fb_types.specs.declared.value.Value.{Value}
use Rattle.fb_types.specs.declared.value.Value.TheVariants as value
use Rattle.fb_coverage.specs.Listed.{listed}
use Rattle.fb_wave.specs.Changes.{in_bits, line, number_changed}
use Rattle.fb_wave.specs.Scopes.{declares, variable_kind}
use Rattle.fb_inspect.specs.walk.Notes.{hidden_variables}
use Rattle.fb_inspect.specs.walk.Chains.{is_loss}
use Rattle.fb_inspect.specs.walk.Looks.{Look, Seen, Taking, opening_look}

-- How the signals of a basic instance are called in the dump, by its number: that of its state, those of its variables that no line carries, by
-- their indexes, and that of its lost events.
abbrev pub state_code : (instance : ℕ) → List ℕ
state_code i = codes "s" ++ decimal i

abbrev pub hidden_code : (instance index : ℕ) → List ℕ
hidden_code i k = codes "i" ++ decimal i ++ codes "_" ++ decimal k

abbrev pub lost_code : (instance : ℕ) → List ℕ
lost_code i = codes "l" ++ decimal i

-- ---- Declarations

-- No name of a declaration has letters in lower case. A text is no signal of the standard: viewers that have such signals declare them so.
abbrev pub hidden_declared : (instance index : ℕ) → Variable → List ℕ
hidden_declared i k v = declares (variable_kind v.ty) (hidden_code i k) v.name

abbrev pub chart_declared : (instance : ℕ) → BasicType → List ℕ
chart_declared i t =
    declares (codes "string 1") (state_code i) (codes "state") ++ listed (hidden_declared i) 0 (hidden_variables t)
    ++ declares (codes "event 1") (lost_code i) (codes "lost")

-- ---- Changes

abbrev pub state_changed : (instance : ℕ) → Name → List ℕ
state_changed i s = line (codes "s" ++ s ++ codes " " ++ state_code i)

-- a value of a signal that is called so
abbrev pub value_by : (code : List ℕ) → Value → List ℕ
value_by code (value.Bool true) = line (codes "1" ++ code)
value_by code (value.Bool false) = line (codes "0" ++ code)
value_by code (value.Whole z) = number_changed (in_bits (value.Whole z)) code

-- an event is lost
abbrev pub lost_fired : (instance : ℕ) → List ℕ
lost_fired i = line (codes "1" ++ lost_code i)

-- the lines for a state that is not what it was before: none where it is
abbrev pub state_change : (instance : ℕ) → (before after : Name) → List ℕ
state_change i a b = if same_name b a then [] else state_changed i b

abbrev pub hidden_change : (instance : ℕ) → (before after : Seen) → (index : ℕ) → Name → List ℕ
hidden_change i a b k n = if same_value (b.variables n) (a.variables n) then [] else value_by (hidden_code i k) (b.variables n)

abbrev pub lost_change : (instance : ℕ) → (is_lost : Bool) → List ℕ
lost_change i true = lost_fired i
lost_change i false = []

abbrev pub chart_changes : (instance : ℕ) → (before after : Seen) → (is_lost : Bool) → BasicType → List ℕ
chart_changes i a b is_lost t =
    state_change i (state_of a.memory) (state_of b.memory) ++ listed (hidden_change i a b) 0 (variable_names (hidden_variables t)) ++ lost_change i is_lost

-- ---- Beginnings

abbrev pub hidden_begun : (instance : ℕ) → Seen → (index : ℕ) → Name → List ℕ
hidden_begun i s k n = value_by (hidden_code i k) (s.variables n)

abbrev pub chart_begun : (instance : ℕ) → Seen → BasicType → List ℕ
chart_begun i s t = state_changed i (state_of s.memory) ++ listed (hidden_begun i s) 0 (variable_names (hidden_variables t))

-- ---- Instances

-- the text of a basic block; other blocks have none
abbrev pub of_chart : (BasicType → List ℕ) → Option Kind → List ℕ
of_chart text None = []
of_chart text (Some (Basic t)) = text t
of_chart text (Some (Event kind)) = []
of_chart text (Some (Composite t)) = []

abbrev pub inner_declared : System → Path → List ℕ
inner_declared sys p = of_chart (chart_declared (sys.number p)) (sys.kind p)

-- what an instance begins with
abbrev pub inner_begun : System → Path → List ℕ
inner_begun sys p = of_chart (chart_begun (sys.number p) ((opening_look sys).blocks p)) (sys.kind p)

-- ---- Takings

-- What a taking changes inside its block, from what was there before it to what is there after it.
abbrev pub taking_changes : System → Look → Taking → List ℕ
taking_changes sys look x =
    let p = x.first.at in of_chart (chart_changes (sys.number p) (look.blocks p) (x.after.blocks p) (list_any is_loss x.pieces)) (sys.kind p)

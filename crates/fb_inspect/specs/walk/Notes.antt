-- What is written between the lines of a trace (this project's own). Each note is a line that begins with two blanks.
use Rattle.std.specs.Prelude.{ℕ, zero, suc, List, [], ◌∷◌, ◌++◌, map, Bool, true, false, not, if◌then◌else◌, Option, Some, None, codes, decimal}
use Rattle.std.specs.List.{filter, flat_map}
use Rattle.fb_types.specs.Names.{Name}
use Rattle.fb_types.specs.Values.{Values, same_value}
use Rattle.fb_types.specs.Text.{value_text, reason_text}
use Rattle.fb_types.specs.EventBlocks.{Memory, Idle, Marks, Flag, Running, Count}
use Rattle.fb_types.specs.declared.library.BasicType.{BasicType}
use Rattle.fb_types.specs.declared.library.Transition.{Transition}
use Rattle.fb_types.specs.declared.library.Variable.{Variable}
use Rattle.fb_types.specs.declared.value.Reason.{Reason}
use Rattle.fb_types.specs.declared.value.Value.{Value}
use Rattle.fb_text.specs.Conditions.{condition_text}
use Rattle.fb_text.specs.Pieces.{joined}
use Rattle.fb_wave.specs.Scopes.{is_carried}

-- the end of a line
abbrev pub ended : List ℕ
ended = 10 ∷ []

-- ---- Basic blocks

-- a transition that cleared
abbrev pub cleared_note : Transition → List ℕ
cleared_note t = joined (codes "  " ∷ t.from ∷ codes " -> " ∷ t.to ∷ codes " by " ∷ []) ++ condition_text t.condition.event t.condition.guard ++ ended

-- an event that cleared none
abbrev pub lost_note : (state : Name) → List ℕ
lost_note s = joined (codes "  lost in " ∷ s ∷ ended ∷ [])

-- the note to an event that cleared no transition, and no text where no event was present
abbrev pub lost_if : {A : Type 0} → (present : Option A) → (state : Name) → List ℕ
lost_if None s = []
lost_if (Some e) s = lost_note s

-- the variables that an algorithm may change: outputs and internal ones
abbrev pub own_variables : BasicType → List Name
own_variables t = map (λ v. v.name) (t.ports.outputs ++ t.internals)

-- an output variable that no event publishes, so that no line carries it
abbrev pub is_unpublished : BasicType → Variable → Bool
is_unpublished t v = not (is_carried t.ports.event_outputs v)

-- the variables that no line carries: output variables that no event publishes, and internal ones
abbrev pub hidden_variables : BasicType → List Variable
hidden_variables t = filter (is_unpublished t) t.ports.outputs ++ t.internals

-- a variable with its value, if it had another before
abbrev pub change_text : Name → (before after : Value) → List ℕ
change_text n before after = if same_value after before then [] else joined (codes " " ∷ n ∷ codes "=" ∷ []) ++ value_text after

abbrev pub changes_text : (before after : Values) → List Name → List ℕ
changes_text before after ns = flat_map (λ n. change_text n (before n) (after n)) ns

-- an algorithm that ran, with what it changed of variables
abbrev pub ran_text : Name → (before after : Values) → List Name → List ℕ
ran_text a before after ns = joined (codes "  " ∷ a ∷ codes ":" ∷ []) ++ changes_text before after ns ++ ended

-- what an action ran: it may have no algorithm, and where no step is left it runs none
abbrev pub ran_by_action : Option Name → (left : ℕ) → (before after : Values) → List Name → List ℕ
ran_by_action None left before after ns = []
ran_by_action (Some a) zero before after ns = []
ran_by_action (Some a) (suc left) before after ns = ran_text a before after ns

abbrev pub ran_note : BasicType → Name → (before after : Values) → List ℕ
ran_note t a before after = ran_text a before after (own_variables t)

-- a reason that ended a reaction
abbrev pub stopped_note : Reason → List ℕ
stopped_note r = joined (codes "  stops: " ∷ reason_text r ∷ ended ∷ [])

abbrev pub stop_note : Option Reason → List ℕ
stop_note None = []
stop_note (Some r) = stopped_note r

-- ---- Event blocks

abbrev pub due_text : Option ℕ → List ℕ
due_text None = []
due_text (Some tick) = decimal tick

-- what an event block remembers, and when its timer goes off
abbrev pub memory_text : Memory → (due : Option ℕ) → List ℕ
memory_text Idle due = codes "  idle"
memory_text (Marks true second) due = codes "  has EI1"
memory_text (Marks false true) due = codes "  has EI2"
memory_text (Marks false false) due = codes "  has none"
memory_text (Flag true) due = codes "  set"
memory_text (Flag false) due = codes "  reset"
memory_text (Running time) due = codes "  due " ++ due_text due
memory_text (Count cv q) due = codes "  count " ++ decimal cv

abbrev pub memory_note : Memory → (due : Option ℕ) → List ℕ
memory_note m due = memory_text m due ++ ended

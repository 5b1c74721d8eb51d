-- What is shown of one block (docs/FORMATS.md, "A session"; this project's profile).
use Rattle.std.specs.Prelude.{◌≡◌, ◌⊎◌, ◌++◌, ℕ, Bool, true, false, List, [], ◌∷◌, if◌then◌else◌, IfNone, IfSome, IsSome, Option, None, Some, codes, decimal}
use Rattle.fb_types.specs.Blocks.{Kind, Basic, Event, Composite, ports_of}
use Rattle.fb_types.specs.EventBlocks.{Memory, Idle, Marks, Flag, Running, Count}
use Rattle.fb_types.specs.Headline.{Inputs, system_of}
use Rattle.fb_types.specs.Keys.{timer_key}
use Rattle.fb_types.specs.Names.{Name}
use Rattle.fb_types.specs.Numbers.{path_at}
use Rattle.fb_types.specs.OfSystem as of_system
use Rattle.fb_types.specs.Reactions.{memory_of, state_of}
use Rattle.fb_types.specs.States.{Block, Config}
use Rattle.fb_types.specs.Text.{path_text, value_text}
use Rattle.fb_types.specs.Values.{Values}
use Rattle.fb_types.specs.declared.event_kind.EventKind.{EventKind}
use Rattle.fb_types.specs.declared.event_kind.EventKind.TheVariants.{Restart, Delay, Cycle}
use Rattle.fb_types.specs.declared.library.BasicType.{BasicType}
use Rattle.fb_types.specs.declared.library.Ports.{Ports}
use Rattle.fb_types.specs.declared.library.Variable.{Variable}
use Rattle.fb_types.specs.declared.value.Value.{Value}
use Rattle.fb_session.specs.Pasts.{IsAlive, Past, StandsBy, Talk, now}
use Rattle.fb_session.specs.declared.fault.SessionFault.{SessionFault}
use Rattle.fb_session.specs.declared.stage.Stage.TheVariants as stage

-- ---- Variables

-- a variable with this value, after a blank
abbrev pub variable_text : Name → Value → List ℕ
variable_text n v = codes " " ++ (n ++ (codes "=" ++ value_text v))

-- variables with their values
abbrev pub variables_text : List Variable → Values → List ℕ
variables_text [] vs = []
variables_text (x ∷ xs) vs = variable_text x.name (vs x.name) ++ variables_text xs vs

-- variables with the values at their indexes
abbrev pub listed_text : List Variable → List Value → List ℕ
listed_text [] vs = []
listed_text (x ∷ xs) [] = []
listed_text (x ∷ xs) (v ∷ vs) = variable_text x.name v ++ listed_text xs vs

-- ---- Event blocks

-- the tick at which a timer goes off, if it runs
abbrev pub timer_text : Option ℕ → List ℕ
timer_text None = codes " idle"
timer_text (Some t) = codes " due " ++ decimal t

abbrev pub marks_word : (first second : Bool) → List ℕ
marks_word first second = if first then codes " has EI1" else (if second then codes " has EI2" else codes " has none")

abbrev pub flag_word : Bool → List ℕ
flag_word is_set = if is_set then codes " set" else codes " reset"

-- what is remembered without a timer; some remember nothing
abbrev pub marks_text : Memory → List ℕ
marks_text Idle = []
marks_text (Marks first second) = marks_word first second
marks_text (Flag is_set) = flag_word is_set
marks_text (Running time) = []
marks_text (Count cv reached) = codes " count " ++ decimal cv

abbrev pub has_timer : EventKind → Bool
has_timer Restart = true
has_timer Delay = true
has_timer Cycle = true
has_timer _ = false

-- what an event block remembers, or when its timer goes off
abbrev pub memory_text : EventKind → Memory → (due : Option ℕ) → List ℕ
memory_text k m due = if has_timer k then timer_text due else marks_text m

-- The tick at which the timer of the instance of this number goes off, if it waits.
pub record IsDue (i : Inputs) (c : Config) (k : ℕ) (due : Option ℕ) : Type 0 where
  pub some : IfSome due (λ t. IsSome (c.agenda (timer_key t ((system_of i).resource (path_at (system_of i) k)) k)))
  pub none : IfNone due ((t : ℕ) → c.agenda (timer_key t ((system_of i).resource (path_at (system_of i) k)) k) ≡ None)

-- ---- Blocks

-- the state of a basic block, and its inputs, outputs and internal variables
abbrev pub basic_text : BasicType → (state : Name) → Values → List ℕ
basic_text t s vs = codes " " ++ (s ++ (variables_text t.ports.inputs vs ++ (variables_text t.ports.outputs vs ++ variables_text t.internals vs)))

-- inputs as they were sampled, and outputs as connections see them
abbrev pub shell_text : Ports → Block → List ℕ
shell_text ports b = variables_text ports.inputs b.variables ++ variables_text ports.outputs b.published

abbrev pub block_text : Kind → Block → (due : Option ℕ) → List ℕ
block_text (Basic t) b due = basic_text t (state_of b.memory) b.variables
block_text (Event k) b due = memory_text k (memory_of b.memory) due ++ shell_text (ports_of (Event k)) b
block_text (Composite t) b due = shell_text t.ports b

-- The text of the instance of this number in a configuration of the model was added.
pub record IsBlockShown (i : Inputs) (c : Config) (k : ℕ) (old new : List ℕ) : Type 0 where
  pub kind : Kind
  pub is_kind : (system_of i).kind (path_at (system_of i) k) ≡ Some kind
  pub due : Option ℕ
  pub is_due : (e : EventKind) → kind ≡ Event e → IsDue i c k due
  pub text : new ≡ old ++ block_text kind (c.state.blocks (path_at (system_of i) k)) due

-- What is shown of a path: what the model has of the instance with that path where the session stands; or nothing, if there is no
-- such instance or the session has failed.
abbrev pub ShowsPath : Talk → (path : List ℕ) → Option (List ℕ) → Type 0
ShowsPath t path None = ((fault : SessionFault) × (t.stage ≡ stage.Failed fault)) ⊎ ((k : ℕ) → of_system.IsInstance t.inputs k → path_text (path_at (system_of t.inputs) k) ≡ path → ⊥)
ShowsPath t path (Some text) =
    IsAlive t.stage
    × (k : ℕ) × of_system.IsInstance t.inputs k × (path_text (path_at (system_of t.inputs) k) ≡ path)
    × ((p : Past) → StandsBy t p → IsBlockShown t.inputs (now t.inputs p) k path text)

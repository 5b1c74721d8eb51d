-- The global state and the agenda (IEC 61499-1, 5.2 and 5.3; held copies, messages and counts are this project's profile).
use Rattle.std.specs.Prelude.{ℕ, List, Option, Bool}
use Rattle.fb_types.specs.Names.{Name, Path, Port}
use Rattle.fb_types.specs.Values.{Values}
use Rattle.fb_types.specs.Blocks.{Bound}
use Rattle.fb_types.specs.EventBlocks as blocks
use Rattle.fb_types.specs.Keys.{Map}
use Rattle.fb_types.specs.declared.key.Key.{Key}
use Rattle.fb_types.specs.declared.value.Value.{Value}

-- What a block remembers between events.
pub data Memory : Type 0 where
  InState : Name → Memory
  Remembers : blocks.Memory → Memory
  Nothing : Memory

-- One block: what its variables hold, the slots of its inputs, and its outputs as connections see them. The copies that a composite has of its inputs are its variables.
pub record Block : Type 0 where
  pub memory : Memory
  pub variables : Values
  pub slots : Values
  pub published : Values

-- What is counted in one tick of one resource: the steps that are left, and the local events.
pub record Meter : Type 0 where
  pub tick : Option ℕ
  pub left : ℕ
  pub locals : ℕ

pub record State : Type 0 where
  pub blocks : Path → Block
  -- in each resource, the held copy of a variable of another resource
  pub held : (resource : ℕ) → Port → Value
  -- the count of messages sent on each link
  pub sent : (link : ℕ) → ℕ
  pub meters : (resource : ℕ) → Meter

-- An event that must be taken.
pub data Event : Type 0 where
  -- a stimulus, with the slots that it sets
  Stimulated : Port → List Bound → Event
  -- the timer of an event block
  Expired : Path → Event
  -- an arrival over a link, with the values that it carries
  Arrived : Port → List (Port × Value) → Event
  -- a local event
  Raised : Port → Event

abbrev pub path_of : Event → Path
path_of (Stimulated q bs) = q.at
path_of (Expired p) = p
path_of (Arrived q cs) = q.at
path_of (Raised q) = q.at

abbrev pub Agenda : Type 0
Agenda = Map Event

-- A line of the trace: an event that was taken, or emitted, with the key of the event whose taking gave it.
pub record Line : Type 0 where
  pub key : Key
  pub taken : Bool
  pub at : Path
  pub event : Name
  pub values : List Bound

pub record Config : Type 0 where
  pub state : State
  pub agenda : Agenda

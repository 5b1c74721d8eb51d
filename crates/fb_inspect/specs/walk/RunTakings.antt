-- The takings of a run, as a walk through its trace goes through them (this project's own).
use Rattle.std.specs.Prelude.{◌≡◌, ◌⊎◌, ℕ, ◌+◌, List, ◌∷◌, ◌++◌, map, Option, Some, None, false}
use Rattle.fb_types.specs.Blocks.{Kind, Composite, Event}
use Rattle.fb_types.specs.EventBlocks as blocks
use Rattle.fb_types.specs.Machines.{Each}
use Rattle.fb_types.specs.Names.{Name, Path, Port, same_path}
use Rattle.fb_types.specs.Reactions.{Outcome, World, memory_of}
use Rattle.fb_types.specs.Simulation.{Ending, AtStop}
use Rattle.fb_types.specs.States.{Event as AnEvent, Arrived, Expired, Line, Raised, Stimulated}
use Rattle.fb_types.specs.Systems.{System}
use Rattle.fb_types.specs.declared.event_kind.EventKind.{EventKind}
use Rattle.fb_types.specs.declared.event_kind.EventKind.TheVariants.{Cycle, Delay, Restart}
use Rattle.fb_types.specs.declared.key.Key.{Key}
use Rattle.fb_types.specs.declared.run.TimerAsk.{TimerAsk}
use Rattle.fb_types.specs.declared.run.TimerAsk.TheVariants.{Keep, Clear, At}
use Rattle.fb_types.specs.declared.value.Reason.{Reason}
use Rattle.fb_types.specs.declared.value.Reason.TheVariants.{Steps}
use Rattle.fb_inspect.specs.Inspections.{last_look, limited}
use Rattle.fb_inspect.specs.walk.Looks.{IsTaking, IsTakingAt, Look, Seen, Taking, due_after, emission_line, most, opening_look, taking_lines, with_left}

-- an instance is there
abbrev pub IsThere : System → Path → Type 0
IsThere sys p = (kind : Kind) × (sys.kind p ≡ Some kind)

-- Events go to instances.
abbrev pub AreThere : System → Type 0
AreThere sys = (q : Port) → Each (λ (t : Port). IsThere sys t.at) (sys.targets q)

-- an instance that reacts by itself
abbrev pub IsLeaf : Option Kind → Type 0
IsLeaf None = ⊥
IsLeaf (Some (Composite t)) = ⊥
IsLeaf (Some k) = Unit {0}

-- ---- Timers

-- the timer of the block may run, by what it remembers
abbrev pub MayRun : EventKind → blocks.Memory → Type 0
MayRun Restart m = Unit {0}
MayRun Delay m = Unit {0}
MayRun Cycle (blocks.Running time) = Unit {0}
MayRun kind m = ⊥

-- after a reaction that changed what the block remembers, and requests this of its timer
abbrev pub RunsAfter : EventKind → (old new : blocks.Memory) → TimerAsk → Type 0
RunsAfter kind old new Keep = MayRun kind old → MayRun kind new
RunsAfter kind old new Clear = Unit {0}
RunsAfter kind old new (At t) = MayRun kind new

-- ---- Reactions

-- What the blocks remember in a world is what the look says of them. It says nothing of the copies that a composite has of its inputs.
pub record IsSeenIn (sys : System) (look : Look) (w : World) : Type 0 where
  pub memory : (p : Path) → (look.blocks p).memory ≡ (w.blocks p).memory
  pub variables : (p : Path) → IsLeaf (sys.kind p) → (look.blocks p).variables ≡ (w.blocks p).variables

-- A reaction of an instance in a run is this taking, which has more steps left than the run. Its timer goes off at this tick where
-- the reaction leaves it as it is.
pub record IsTakingOf (sys : System) (k : Key) (p : Path) (left more : ℕ) (look : Look) (due : Option ℕ) (o : Outcome) (x : Taking) : Type 0 where
  pub key_is : x.first.key ≡ k
  pub at_is : x.first.at ≡ p
  pub lines_are : taking_lines x ≡ o.lines
  pub stop_is : x.stop ≡ o.stop
  pub is_taking : IsTakingAt (left + more) look (sys.kind x.first.at) x
  pub seen : IsSeenIn sys x.after o.world
  pub due_is : (x.after.blocks p).due ≡ due_after o.timer due
  pub others : (q : Path) → same_path q p ≡ false → x.after.blocks q ≡ look.blocks q
  pub steps_are : x.after.steps ≡ (with_left k (o.left + more) look).steps
  pub asks : (o.timer ≡ Keep) ⊎ ((kind : EventKind) × (sys.kind p ≡ Some (Event kind)))
  pub runs : (kind : EventKind) → sys.kind p ≡ Some (Event kind) → RunsAfter kind (memory_of (look.blocks p).memory) (memory_of (x.after.blocks p).memory) o.timer

-- A run may have as many steps more, or it does not stop for them.
abbrev pub MayHaveMore : (more : ℕ) → Option Reason → Type 0
MayHaveMore more stop = (more ≡ 0) ⊎ (stop ≡ Some Steps → ⊥)

-- The timer of an event block goes off at a tick, and the block emits something then.
pub record GoesOff (kind : EventKind) (b : Seen) (tick : ℕ) : Type 0 where
  pub due : b.due ≡ Some tick
  pub first : Name
  pub rest : List Name
  pub emits : (blocks.expiry kind (memory_of b.memory) tick).emits ≡ first ∷ rest

-- An event is one of an instance of the system, and one of a timer comes where it goes off.
abbrev pub CanReact : System → Look → Key → AnEvent → Type 0
CanReact sys look k (Stimulated q bs) = IsThere sys q.at
CanReact sys look k (Expired p) = (kind : EventKind) × (sys.kind p ≡ Some (Event kind)) × GoesOff kind (look.blocks p) k.tick
CanReact sys look k (Arrived q cs) = IsThere sys q.at
CanReact sys look k (Raised q) = IsThere sys q.at

-- the tick at which the timer of a block goes off where a reaction leaves it as it is: none after it has gone off
abbrev pub due_before : Look → AnEvent → Option ℕ
due_before look (Stimulated q bs) = (look.blocks q.at).due
due_before look (Expired p) = None
due_before look (Arrived q cs) = (look.blocks q.at).due
due_before look (Raised q) = (look.blocks q.at).due

-- ---- Lines that go on

-- After the first line of a taking come the lines of its emissions, or a run stops in them for its steps.
abbrev pub GoesOn : Taking → List Line → Ending → Type 0
GoesOn x more end =
    ((rest : List Line) × (more ≡ map (emission_line x.first) x.emits ++ rest))
    ⊎ ((rest : List Line) × (map (emission_line x.first) x.emits ≡ more ++ rest) × (end ≡ AtStop x.first.key.tick x.first.key.resource Steps))

-- A line begins a taking after others, with the steps of the greatest limit, or with those that are left of another one where a run stops for its
-- steps.
abbrev pub BeginsSo : System → (limit : ℕ) → List Taking → Line → Ending → Type 0
BeginsSo sys limit xs l end =
    ((x : Taking) × (x.first ≡ l) × IsTaking sys most (last_look (opening_look sys) xs) x)
    ⊎ ((x : Taking) × (x.first ≡ l) × IsTaking sys limit (limited limit l.key.tick l.key.resource (last_look (opening_look sys) xs)) x × (end ≡ AtStop l.key.tick l.key.resource Steps))

-- The result of the arrival of an event at a port of an instance (IEC 61499-1, 5.2.2 and 5.3.2; crossings and timers are this project's profile).
use Rattle.std.specs.Prelude.{◌≡◌, ℕ, List, [], ◌∷◌, Option, Some, None, Result, Ok, Err}
use Rattle.fb_types.specs.Blocks.{Emission, Event, ports_of}
use Rattle.fb_types.specs.EventBlocks as blocks
use Rattle.fb_types.specs.Headline.{Inputs, system_of}
use Rattle.fb_types.specs.Numbers.{path_at, ports_at, port_of}
use Rattle.fb_types.specs.Reactions.{World, Outcome, taking, memory_of, answered, emitted_all, crossing_in, crossing_out, expires, ReactsAt}
use Rattle.fb_types.specs.States.{Line}
use Rattle.fb_types.specs.declared.event_kind.EventKind.{EventKind}
use Rattle.fb_types.specs.declared.key.Key.{Key}
use Rattle.fb_types.specs.declared.run.Halt.{Halt}
use Rattle.fb_types.specs.declared.run.Halt.TheVariants as halt
use Rattle.fb_types.specs.declared.run.Target.{Target}
use Rattle.fb_types.specs.declared.run.TimerAsk.TheVariants.{Keep}
use Rattle.fb_types.specs.declared.value.Reason.{Reason}
use Rattle.fb_net.specs.Outs.{Gathered, RepresentsOutcome, gathered}
use Rattle.fb_net.specs.declared.outbox.Outbox.{Outbox}
use Rattle.fb_net.specs.Worlds.{IsForest}
use Rattle.fb_net.specs.declared.resource.Forest.{Forest}
use Rattle.fb_laws.specs.Typed.{AreTyped}

-- ---- Before

-- An event of the resource may be taken under the key.
pub record IsReady (k : Key) (f : Forest) : Type 0 where
  pub resource : k.resource ≡ f.resource

-- The blocks represent a world in which each variable holds a value of its type.
abbrev pub AreTypedAt : Inputs → Forest → Type 0
AreTypedAt i f = (w : World) × IsForest i f w × AreTyped (system_of i) w

-- ---- The result of a step

-- In each world that the blocks represented, blocks and outbox represent what the step makes of it, however many steps are left.
abbrev pub ComesTo : Inputs → (World → ℕ → Outcome) → Forest → Outbox → Forest → Outbox → Type 0
ComesTo i step old before new x = (w : World) (left : ℕ) → IsForest i old w → RepresentsOutcome i (gathered i before) new x (step w left)

-- an event input of the instance takes an event: its variables are sampled, and its line is written
abbrev pub sampling : Inputs → Key → Target → World → ℕ → Outcome
sampling i k at w left = let sys = system_of i in taking sys k w (port_of sys at) (ports_at sys (path_at sys at.instance)) left

-- an event input of an event block takes an event, and the block reacts
abbrev pub reacting : Inputs → Key → EventKind → Target → World → ℕ → Outcome
reacting i k kind at w left =
    let sys = system_of i in
    let q = port_of sys at in
    let begun = taking sys k w q (ports_of (Event kind)) left in
    let b = begun.world.blocks q.at in
    answered sys k q.at kind (blocks.reaction kind (memory_of b.memory) q.name k.tick b.variables) begun

-- an event input of a composite takes an event, which goes on inside
abbrev pub entering : Inputs → Key → Target → World → ℕ → Outcome
entering i k at w left = let sys = system_of i in crossing_in sys k (port_of sys at) (sampling i k at w left)

-- an event from inside leaves a composite
abbrev pub leaving : Inputs → Key → Target → World → ℕ → Outcome
leaving i k at w left = let sys = system_of i in crossing_out sys k w (port_of sys at) (ports_at sys (path_at sys at.instance)) left

-- the timer of an event block goes off
abbrev pub expiring : Inputs → Key → EventKind → (instance : ℕ) → World → ℕ → Outcome
expiring i k kind at w left = let sys = system_of i in expires sys k w (path_at sys at) left (Some (Event kind))

-- An event was taken, and its line alone was put out so far.
pub record IsBegun (i : Inputs) (f : Forest) (line : Line) (o : Outcome) : Type 0 where
  pub world : IsForest i f o.world
  pub lines : o.lines ≡ line ∷ []
  pub outs : o.outs ≡ []
  pub timer : o.timer ≡ Keep

-- Line and emissions of a leaf were written, wherever its reaction has begun so.
abbrev pub WritesAndEmits : Inputs → Key → (instance : ℕ) → Line → List Emission → Forest → Outbox → Forest → Outbox → Type 0
WritesAndEmits i k at line emits old before new x =
    (o : Outcome) → IsBegun i old line o → RepresentsOutcome i (gathered i before) new x (emitted_all (system_of i) k (path_at (system_of i) at) emits o)

-- ---- The result of a reaction

-- A reaction of the model from one world, whose outcome blocks and outbox represent.
pub record Reacted (i : Inputs) (Comes : Outcome → Type 0) (before : Gathered) (stop : Option Reason) (new : Forest) (after : ℕ) (x : Outbox) : Type 0 where
  pub outcome : Outcome
  pub reacts : Comes outcome
  pub stops : outcome.stop ≡ stop
  pub leaves : outcome.left ≡ after
  pub represents : RepresentsOutcome i before new x outcome

-- The reaction has this outcome in each world that the blocks represented.
abbrev pub ReactedIn : Inputs → (World → Outcome → Type 0) → Forest → Outbox → Option Reason → Forest → (after : ℕ) → Outbox → Type 0
ReactedIn i Comes old before stop new after x =
    (w : World) → IsForest i old w → Reacted i (Comes w) (gathered i before) stop new after x

-- How a reaction ended. If memory ran out, nothing is said.
abbrev pub HasReacted : Inputs → (World → Outcome → Type 0) → Forest → Outbox → Result (Unit {0}) Halt → Forest → (after : ℕ) → Outbox → Type 0
HasReacted i Comes old before (Ok _) new after x = ReactedIn i Comes old before None new after x
HasReacted i Comes old before (Err (halt.Stop r)) new after x = ReactedIn i Comes old before (Some r) new after x
HasReacted i Comes old before (Err halt.Memory) new after x = Unit {0}

-- an event at a port of an instance of whatever kind
abbrev pub Arrives : Inputs → Key → Target → (left : ℕ) → World → Outcome → Type 0
Arrives i k at left w o = let sys = system_of i in ReactsAt sys k w (port_of sys at) left (sys.kind (path_at sys at.instance)) o

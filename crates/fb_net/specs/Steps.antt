-- What each step of taking an event rests on, and what it leaves.
use Rattle.std.specs.Prelude.{◌≡◌, ◌≢◌, ◌<◌, ◌≤◌, ℕ, Bool, List, Some, true, false, Result, length}
use Rattle.fb_types.specs.Blocks.{Basic, Event as EventOf, Kind}
use Rattle.fb_types.specs.Headline.{Inputs, system_of}
use Rattle.fb_types.specs.Numbers.{path_at, ports_at}
use Rattle.fb_types.specs.Reactions.{Outcome, World}
use Rattle.fb_types.specs.Systems.{System}
use Rattle.fb_types.specs.declared.event_kind.EventKind.{EventKind}
use Rattle.fb_types.specs.declared.library.BasicType.{BasicType}
use Rattle.fb_types.specs.declared.library.Ports.{Ports}
use Rattle.fb_types.specs.declared.run.Emission.{Emission}
use Rattle.fb_types.specs.declared.run.Event.{Event}
use Rattle.fb_types.specs.declared.run.Halt.{Halt}
use Rattle.fb_types.specs.declared.run.Target.{Target}
use Rattle.fb_laws.specs.Typed.{IsTypedEvent, IsTypedSystem}
use Rattle.fb_system.specs.Ports.{IsCompositeAt, IsPort, IsTarget}
use Rattle.fb_net.specs.Arrivals.{Arrives, AreTypedAt, ComesTo, HasReacted, IsReady}
use Rattle.fb_net.specs.Emitting.{HasEmitted}
use Rattle.fb_net.specs.Events.{HasTaken, IsEventIn, Remembered, event_of}
use Rattle.fb_net.specs.Outs.{StillAreOuts}
use Rattle.fb_net.specs.declared.taking.Taking.{Taking}
use Rattle.fb_net.specs.Worlds.{InForest, IsForest, Stands}
use Rattle.fb_net.specs.declared.resource.Forest.{Forest}

abbrev pub system_in : Taking → System
system_in t = system_of t.system.now

-- the interface of an instance
abbrev pub ports_in : Taking → (instance : ℕ) → Ports
ports_in t k = ports_at (system_in t) (path_at (system_in t) k)

-- An instance is of a kind, and another is not of a basic type.
abbrev pub HasKind : Taking → (instance : ℕ) → Kind → Type 0
HasKind t k kind = (system_in t).kind (path_at (system_in t) k) ≡ Some kind

abbrev pub IsNoBasic : Taking → (instance : ℕ) → Type 0
IsNoBasic t k = (b : BasicType) → (system_in t).kind (path_at (system_in t) k) ≢ Some (Basic b)

-- ---- Before

-- An event may be taken.
abbrev pub MayBegin : Taking → Type 0
MayBegin t = IsReady t.key.now t.forest.now

-- An instance of the resource may put out under a key of the resource.
pub record MayEmit (t : Taking) (instance : ℕ) : Type 0 where
  pub number : instance < length (system_in t).paths
  pub stands : Stands t.system.now t.forest.now instance
  pub resource : t.key.now.resource ≡ t.forest.now.resource

-- An event may be taken at a port of an instance of the resource.
pub record MayArrive (t : Taking) (at : Target) : Type 0 where
  pub port : IsPort (system_in t) at
  pub stands : Stands t.system.now t.forest.now at.instance
  pub ready : MayBegin t

-- An event may be taken at an event input of an event block or a composite, which keeps what its variables sample.
pub record MaySample (t : Taking) (at : Target) : Type 0 where
  pub arrives : MayArrive t at
  pub input : at.is_output ≡ false
  pub no_basic : IsNoBasic t at.instance

-- An event may be taken at an event input of an event block, where each variable holds a value of its type.
pub record MayReact (t : Taking) (kind : EventKind) (at : Target) : Type 0 where
  pub arrives : MayArrive t at
  pub input : at.is_output ≡ false
  pub of_kind : HasKind t at.instance (EventOf kind)
  pub sound : IsTypedSystem (system_in t)
  pub typed : AreTypedAt t.system.now t.forest.now

-- An event may be taken at an event input of a basic block.
pub record MayChart (t : Taking) (b : BasicType) (at : Target) : Type 0 where
  pub arrives : MayArrive t at
  pub input : at.is_output ≡ false
  pub of_kind : HasKind t at.instance (Basic b)

-- An event may be taken at a port of a composite: an event input, or an event output.
pub record MayCross (t : Taking) (at : Target) (is_output : Bool) : Type 0 where
  pub arrives : MayArrive t at
  pub side : at.is_output ≡ is_output
  pub composite : IsCompositeAt (system_in t) at.instance

-- An event of the resource may be taken.
pub record MayTake (t : Taking) (e : Event) : Type 0 where
  pub event : IsEventIn t.system.now t.forest.now.resource e
  pub ready : MayBegin t
  pub belongs : AreTypedAt t.system.now t.forest.now
  pub typed : IsTypedEvent (system_in t) (event_of t.system.now e)

-- ---- After

-- All that was put out belongs to the system, if what was put out before does.
abbrev pub ArePutOut : Taking → Taking → Type 0
ArePutOut old new = StillAreOuts old.system.now old.forest.now old.outbox.now new.forest.now new.outbox.now

-- The blocks are of the same resource, and each instance has its block.
pub record AreKept (i : Inputs) (old new : Forest) : Type 0 where
  pub resource : new.resource ≡ old.resource
  pub whole : (w : World) → IsForest i old w → (v : World) × IsForest i new v

-- A taking is of the same system and key, and lends what it lent.
pub record IsSame (old new : Taking) : Type 0 where
  pub system : new.system.now ≡ old.system.now
  pub key : new.key.now ≡ old.key.now
  pub forest : new.forest.ghost_name ≡ old.forest.ghost_name
  pub outbox : new.outbox.ghost_name ≡ old.outbox.ghost_name

abbrev pub IsKept : Taking → Taking → Type 0
IsKept old new = AreKept old.system.now old.forest.now new.forest.now

-- However a step ends, also where memory runs out: the taking is the same, and its blocks stay those of the system.
pub record StaysWhole (old new : Taking) : Type 0 where
  pub same : IsSame old new
  pub kept : IsKept old new

-- A step has the result that the model gives it.
pub record HasDone (step : World → ℕ → Outcome) (old new : Taking) : Type 0 where
  pub comes : ComesTo old.system.now step old.forest.now old.outbox.now new.forest.now new.outbox.now
  pub outs : ArePutOut old new

-- An event has arrived at a port, and this is how the reaction ended.
pub record HasArrived (old : Taking) (at : Target) (left : ℕ) (end : Result (Unit {0}) Halt) (new : Taking) (after : ℕ) : Type 0 where
  pub reacted : HasReacted old.system.now (Arrives old.system.now old.key.now at left) old.forest.now old.outbox.now end new.forest.now after new.outbox.now
  pub outs : Remembered end (ArePutOut old new)
  pub fewer : after ≤ left

-- An instance has emitted, and all that was put out belongs to the system.
abbrev pub EmitsWell : Taking → (instance : ℕ) → List Emission → Taking → Type 0
EmitsWell old k es new = HasEmitted old.system.now old.key.now k old.forest.now old.outbox.now es new.forest.now new.outbox.now

-- An event was taken: what it came to, what it puts out, and how many steps are left.
pub record WasTaken (old : Taking) (e : Event) (left : ℕ) (end : Result (Unit {0}) Halt) (new : Taking) (after : ℕ) : Type 0 where
  pub taken : HasTaken old.system.now old.key.now e old.forest.now old.outbox.now left end new.forest.now after new.outbox.now
  pub outs : Remembered end (ArePutOut old new)
  pub fewer : after ≤ left
  pub kept : IsKept old new

-- What an event brings is set, and it arrives at a port. An arrival there is a taking of the event.
pub record HasBrought (old : Taking) (e : Event) (at : Target) (new : Taking) : Type 0 where
  pub target : IsTarget (system_in new) at
  pub here : InForest new.system.now new.forest.now at.instance
  pub ready : MayBegin new
  pub typed : AreTypedAt new.system.now new.forest.now
  pub whole : StaysWhole old new
  pub taken : (left : ℕ) (end : Result (Unit {0}) Halt) (last : Taking) (after : ℕ) → HasArrived new at left end last after → StaysWhole new last → WasTaken old e left end last after

-- How the steps of one tick of a resource were used, up to a stop (this project's own; docs/PROFILE.md, "Steps").
use Rattle.std.specs.Prelude.{◌≡◌, ◌<◌, ◌≤◌, ◌==◌, ◌&&◌, ◌-◌, ◌+◌, ◌^◌, ℕ, Bool, true, false, List, [], ◌∷◌, ◌++◌, min, Option, Some, slice_get, slice_set}
use Rattle.fb_types.specs.Headline.{Inputs, system_of, stimuli_of}
use Rattle.fb_types.specs.Simulation.{Taken, TakesLeast, after, opening}
use Rattle.fb_types.specs.States.{Config, State, Event}
use Rattle.fb_types.specs.States as model
use Rattle.fb_types.specs.Systems.{System}
use Rattle.fb_types.specs.Takes.{begun}
use Rattle.fb_types.specs.declared.key.Key.{Key}
use Rattle.fb_types.specs.declared.value.Reason.{Reason}
use Rattle.fb_sim_machine.specs.Completions.{Reaches}
use Rattle.fb_sim_machine.specs.Machines.{IsTaken}
use Rattle.fb_sim_machine.specs.declared.machine.Machine.{Machine}
use Rattle.fb_stop.specs.Found.{ArrivesAt, instance_of}
use Rattle.fb_stop.specs.declared.found.EventSite.{EventSite}
use Rattle.fb_stop.specs.declared.spent.Moment.{Moment}

-- ---- One event

-- the key is one of the tick and the resource
abbrev pub is_of : Moment → Key → Bool
is_of m k = (k.tick == m.tick) && (k.resource == m.resource)

-- the steps that an event used, by what its resource had left of the tick before and after it
abbrev pub used : (limit : ℕ) → Key → (before after : State) → ℕ
used limit k s t = (begun limit k.tick (s.meters k.resource)).left - (begun limit k.tick (t.meters k.resource)).left

-- Steps are added to those of an instance, up to the greatest number of 64 bits.
pub record Charges (instance used : ℕ) (old new : List ℕ) : Type 0 where
  pub before : ℕ
  pub was : slice_get old instance ≡ Some before
  pub is : new ≡ slice_set old instance (min (before + used) (2 ^ 64 - 1))

-- Steps are charged to the instance at which an event arrives.
abbrev pub ChargesEvent : System → Event → (used : ℕ) → (old new : List ℕ) → Type 0
ChargesEvent sys e used old new = (at : EventSite) × ArrivesAt sys e at × Charges (instance_of at) used old new

-- Steps are charged if the event is one of the tick and the resource.
abbrev pub ChargesIf : Bool → System → Event → (used : ℕ) → (old new : List ℕ) → Type 0
ChargesIf true sys e used old new = ChargesEvent sys e used old new
ChargesIf false sys e used old new = new ≡ old

abbrev pub ChargesTaken : System → (limit : ℕ) → Moment → State → Taken → (old new : List ℕ) → Type 0
ChargesTaken sys limit m s t old new = ChargesIf (is_of m t.key) sys t.event (used limit t.key s t.effect.state) old new

-- ---- A run

-- the same of event after event
unfoldable pub ChargesAll : System → (limit : ℕ) → Moment → Config → List Taken → (old new : List ℕ) → Type 0
ChargesAll sys limit m c [] old new = new ≡ old
ChargesAll sys limit m c (t ∷ ts) old new = (mid : List ℕ) × ChargesTaken sys limit m c.state t old mid × ChargesAll sys limit m (after c t) ts mid new

-- The simulation stops below the horizon, and these are the steps that its events used in the tick of the resource, the stop included.
pub record AreSpent (i : Inputs) (horizon limit : ℕ) (m : Moment) (old new : List ℕ) : Type 0 where
  pub before : Config
  pub taken : List Taken
  pub reaches : Reaches i horizon limit (opening (system_of i) (stimuli_of i)) before taken
  pub stop : Taken
  pub takes : TakesLeast (system_of i) limit before stop
  pub below : stop.key.tick < horizon
  pub reason : Reason
  pub stops : stop.effect.stop ≡ Some reason
  pub charged : ChargesAll (system_of i) limit m (opening (system_of i) (stimuli_of i)) (taken ++ stop ∷ []) old new

-- ---- The run, as it goes

-- An event was taken, and its steps were added.
pub record HasSpent (i : Inputs) (limit : ℕ) (m : Moment) (s : State) (a : model.Agenda) (k : Key) (e : Event) (stop : Option Reason) (new : Machine) (before after : List ℕ) : Type 0 where
  pub from : Machine
  pub taken : IsTaken i limit s a k e stop from new
  pub charged : ChargesIf (is_of m k) (system_of i) e (used limit k s taken.effect.state) before after

-- ---- The most

-- No other number of the list is greater, those before it are less, and it is not 0.
pub record IsMost (xs : List ℕ) (index : ℕ) : Type 0 where
  pub most : ℕ
  pub is : slice_get xs index ≡ Some most
  pub some : 0 < most
  pub none_more : (j x : ℕ) → slice_get xs j ≡ Some x → x ≤ most
  pub first : (j x : ℕ) → j < index → slice_get xs j ≡ Some x → x < most

-- All numbers of the list are 0.
abbrev pub AreNone : List ℕ → Type 0
AreNone xs = (j x : ℕ) → slice_get xs j ≡ Some x → x ≡ 0

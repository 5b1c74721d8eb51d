-- Where the simulation of a system stops (IEC 61499-1, 5.2; keys and the count of steps are this project's profile).
use Rattle.std.specs.Prelude.{◌≡◌, ◌<◌, ℕ, zero, suc, List, [], length, Option, Some, None}
use Rattle.fb_types.specs.Blocks.{Basic, inputs_with}
use Rattle.fb_types.specs.Charts.{Position}
use Rattle.fb_types.specs.Headline.{Inputs, system_of, stimuli_of}
use Rattle.fb_types.specs.Names.{Port}
use Rattle.fb_types.specs.Numbers.{path_at, port_of}
use Rattle.fb_types.specs.Reactions.{World, hold_all, sampled, state_of, with_slots}
use Rattle.fb_types.specs.Simulation.{AtHorizon, IsSimulation, Taken, TakesLeast, ending_of, opening}
use Rattle.fb_types.specs.States.{Config, State, Event, Stimulated, Expired, Arrived, Raised}
use Rattle.fb_types.specs.Systems.{System}
use Rattle.fb_types.specs.Takes.{Effect, begun, world_of}
use Rattle.fb_types.specs.declared.key.Key.{Key}
use Rattle.fb_types.specs.declared.library.BasicType.{BasicType}
use Rattle.fb_types.specs.declared.value.Reason.{Reason}
use Rattle.fb_system.specs.Ports.{IsTarget}
use Rattle.fb_sim_machine.specs.Completions.{Reaches}
use Rattle.fb_stop.specs.Sites.{ReactionStops}
use Rattle.fb_stop.specs.declared.found.EventSite.{EventSite}
use Rattle.fb_stop.specs.declared.found.EventSite.TheVariants.{Timer, Port as AtPort}
use Rattle.fb_stop.specs.declared.found.FoundStop.{FoundStop}
use Rattle.fb_stop.specs.declared.found.StopSite.{StopSite}
use Rattle.fb_stop.specs.declared.found.StopSite.TheVariants.{BeforeEvent, InReaction}
use Rattle.fb_stop.specs.declared.site.Site.{Site}

-- ---- Where an event arrives

abbrev pub port_in : Event → Option Port
port_in (Stimulated q bs) = Some q
port_in (Expired p) = None
port_in (Arrived q cs) = Some q
port_in (Raised q) = Some q

-- The event is the timer of the instance, or arrives at the port.
abbrev pub ArrivesAt : System → Event → EventSite → Type 0
ArrivesAt sys e (Timer k) = (k < length sys.paths) × (e ≡ Expired (path_at sys k))
ArrivesAt sys e (AtPort t) = IsTarget sys t × (port_in e ≡ Some (port_of sys t))

-- the instance at which an event arrives
abbrev pub instance_of : EventSite → ℕ
instance_of (Timer k) = k
instance_of (AtPort t) = t.instance

-- what the event sets before it samples: a stimulus sets slots, and a message held copies
abbrev pub world_at : Event → World → World
world_at (Stimulated q bs) w = with_slots q.at bs w
world_at (Expired p) w = w
world_at (Arrived q cs) w = record w { held = hold_all cs w.held }
world_at (Raised q) w = w

-- ---- Where it stops

-- where the chart of a basic block at a port begins its reaction to an event, with that many steps left
abbrev pub start_at : System → Key → State → Event → BasicType → Port → (left : ℕ) → Position
start_at sys k s e t q left =
    record {
      state = state_of (s.blocks q.at).memory;
      vars = sampled sys k.resource (world_at e (world_of s k.resource)) q.at (inputs_with t.ports q.name);
      left = left;
      emitted = [];
    }

-- The reaction of the basic block at the port stops for the reason, at the site, from the memory that the block has in the state.
pub record StopsInBlock (sys : System) (limit : ℕ) (s : State) (k : Key) (e : Event) (q : Port) (r : Reason) (x : Site) : Type 0 where
  pub block : BasicType
  pub kind : sys.kind q.at ≡ Some (Basic block)
  pub left : ℕ
  pub counted : (begun limit k.tick (s.meters k.resource)).left ≡ suc left
  pub position : Position
  pub stops : ReactionStops block q.name (start_at sys k s e block q left) (record { reason = r; site = x }) position

-- No step is left for the event, or the reaction to it stops.
abbrev pub IsSite : System → (limit : ℕ) → State → Key → Event → Reason → EventSite → StopSite → Type 0
IsSite sys limit s k e r at BeforeEvent = (begun limit k.tick (s.meters k.resource)).left ≡ zero
IsSite sys limit s k e r (AtPort t) (InReaction x) = StopsInBlock sys limit s k e (port_of sys t) r x
IsSite sys limit s k e r (Timer n) (InReaction x) = ⊥

-- The simulation stops below the horizon: its events before the last one do not stop it, and the last one does, there.
pub record IsStop (i : Inputs) (horizon limit : ℕ) (f : FoundStop) : Type 0 where
  pub before : Config
  pub taken : List Taken
  pub reaches : Reaches i horizon limit (opening (system_of i) (stimuli_of i)) before taken
  pub event : Event
  pub effect : Effect
  pub takes : TakesLeast (system_of i) limit before (record { key = f.key; event = event; effect = effect })
  pub below : f.key.tick < horizon
  pub stops : effect.stop ≡ Some f.reason
  pub arrives : ArrivesAt (system_of i) event f.at
  pub site : IsSite (system_of i) limit before.state f.key event f.reason f.at f.site

-- The simulation comes to its horizon.
pub record NeverStops (i : Inputs) (horizon limit : ℕ) : Type 0 where
  pub taken : List Taken
  pub simulation : IsSimulation (system_of i) (stimuli_of i) horizon limit taken
  pub ending : ending_of horizon taken ≡ AtHorizon horizon

abbrev pub Finds : Inputs → (horizon limit : ℕ) → Option FoundStop → Type 0
Finds i horizon limit (Some f) = IsStop i horizon limit f
Finds i horizon limit None = NeverStops i horizon limit

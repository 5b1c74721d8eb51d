-- A resource's part of the state, and the machine that takes its events (this project's profile).
use Rattle.std.specs.Prelude.{◌≡◌, ℕ, ◌<◌, ◌==◌, if◌then◌else◌, Option, Some, None, List, [], ◌∷◌, length}
use Rattle.fb_types.specs.Names.{Path, Port}
use Rattle.fb_types.specs.Systems.{System}
use Rattle.fb_types.specs.States.{State, Block, Meter, Event, path_of, Line, Config}
use Rattle.fb_types.specs.Takes.{Effect, Takes}
use Rattle.fb_types.specs.Simulation.{Taken}
use Rattle.fb_types.specs.Machines.{Outcome, Machine, Item, Local}
use Rattle.fb_types.specs.declared.key.Key.{Key}
use Rattle.fb_types.specs.declared.value.Value.{Value}
use Rattle.fb_types.specs.declared.value.Reason.{Reason}

-- What belongs to one resource: the blocks at its paths, its held copies, the counts of messages on the links that it sends on, and its counts of steps and local events.
pub record Part : Type 0 where
  pub blocks : Path → Option Block
  pub held : Port → Value
  pub sent : (link : ℕ) → Option ℕ
  pub meter : Meter

abbrev pub part_of : System → (resource : ℕ) → State → Part
part_of sys r s =
    record {
      blocks = λ p. if sys.resource p == r then Some (s.blocks p) else None;
      held = s.held r;
      sent = λ l. if sys.sender l == r then Some (s.sent l) else None;
      meter = s.meters r;
    }

-- the outcome of the taking of a key, for its resource
abbrev pub outcome_of : System → Key → Effect → Outcome Part Event Line Reason
outcome_of sys k x =
    record { part = part_of sys k.resource x.state; changes = x.changes; sent = x.sent; lines = x.lines; stop = x.stop }

-- From a part of the key's resource the taking gives what it gives in some whole state with that part.
pub record GivesInPart (sys : System) (limit : ℕ) (p : Part) (k : Key) (e : Event) (o : Outcome Part Event Line Reason) : Type 0 where
  pub state : State
  pub effect : Effect
  pub is_part : part_of sys k.resource state ≡ p
  pub takes : Takes sys limit state k e effect
  pub gives : o ≡ outcome_of sys k effect

-- A message arrives by its link: at the link's end, and at the tick that the latency at its sending gives.
pub record IsArrival (sys : System) (k : Key) (sent : ℕ) : Type 0 where
  pub class : k.class ≡ 2
  pub link : k.a < sys.links
  pub tick : k.tick ≡ sys.arrival k.a sent
  pub resource : k.resource ≡ sys.receiver k.a

-- the event is at an instance of the key's resource
abbrev pub IsAtResource : System → Key → Event → Type 0
IsAtResource sys k e = sys.resource (path_of e) ≡ k.resource

-- The machine of a system, with a limit on the steps of one tick.
abbrev pub machine : System → (limit : ℕ) → Machine
machine sys limit =
    record {
      Part = Part;
      Event = Event;
      Line = Line;
      Reason = Reason;
      Fits = IsAtResource sys;
      Gives = GivesInPart sys limit;
      sender = λ k. sys.sender k.a;
      Arrives = IsArrival sys;
      line_tick = λ l. l.key.tick;
      line_resource = λ l. l.key.resource;
    }

-- A resource's part of state and agenda. Arrivals have class 2, and nothing else has.
abbrev pub local_of : (sys : System) (limit resource : ℕ) → Config → Option Reason → Local (machine sys limit)
local_of sys limit r c stop =
    record {
      part = part_of sys r c.state;
      own = λ k. if k.class == 2 then None else c.agenda k;
      inbox = λ k. if k.class == 2 then c.agenda k else None;
      stop = stop;
    }

-- a taking of the simulation, as one of its resource
abbrev pub item_of : (sys : System) (limit : ℕ) → Taken → Item (machine sys limit)
item_of sys limit t = record { key = t.key; event = t.event; out = outcome_of sys t.key t.effect }

abbrev pub items_of : (sys : System) (limit : ℕ) → List Taken → List (Item (machine sys limit))
items_of sys limit [] = []
items_of sys limit (t ∷ ts) = item_of sys limit t ∷ items_of sys limit ts

abbrev pub count_of : System → ℕ
count_of sys = length sys.resource_names

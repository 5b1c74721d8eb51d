-- The one-thread simulation, which always takes the least key (this project's profile).
use Rattle.std.specs.Prelude.{◌≡◌, ℕ, ◌+◌, ◌<◌, List, [], ◌∷◌, ◌++◌, flat_map, map, Option, Some, None, All}
use Rattle.fb_types.specs.Names.{Name, Path, Port}
use Rattle.fb_types.specs.Blocks.{Kind, Basic, Event, Composite, Bound}
use Rattle.fb_types.specs.EventBlocks.{memory_at_start}
use Rattle.fb_types.specs.Keys.{Precedes, no_keys, with_all, NoneBelow, stimulus_key, timer_key}
use Rattle.fb_types.specs.Systems.{System}
use Rattle.fb_types.specs.States.{State, Memory, InState, Remembers, Nothing, Block, Config, Agenda, Event as AnEvent, Stimulated, Expired, Line}
use Rattle.fb_types.specs.Takes.{Effect, Takes, agenda_after}
use Rattle.fb_types.specs.declared.library.State.{State as EcState}
use Rattle.fb_types.specs.declared.event_kind.EventKind.TheVariants.{Restart}
use Rattle.fb_types.specs.declared.key.Key.{Key}
use Rattle.fb_types.specs.declared.deploy.Stimulus as deploy
use Rattle.fb_types.specs.declared.value.Reason.{Reason}

-- A stimulus: its tick, its event input, and the slots that it sets.
pub record Stimulus : Type 0 where
  pub tick : ℕ
  pub port : Port
  pub sets : List Bound

-- what a stimulus that was read says
abbrev pub stimulus_of : deploy.Stimulus → Stimulus
stimulus_of s =
    record {
      tick = s.tick;
      port = record { at = s.instance ∷ []; name = s.event };
      sets = map (λ x. record { variable = x.variable; value = x.value }) s.settings;
    }

-- ---- The opening state and agenda

-- the first state that is listed
abbrev pub first_state : List EcState → Name
first_state [] = []
first_state (s ∷ ss) = s.name

abbrev pub opening_memory : Option Kind → Memory
opening_memory None = Nothing
opening_memory (Some (Basic t)) = InState (first_state t.states)
opening_memory (Some (Event k)) = Remembers (memory_at_start k)
opening_memory (Some (Composite t)) = Nothing

abbrev pub opening_block : System → Path → Block
opening_block sys p =
    let begins = λ (n : Name). sys.initial (record { at = p; name = n }) in
    record { memory = opening_memory (sys.kind p); variables = begins; slots = begins; published = begins }

abbrev pub opening_state : System → State
opening_state sys =
    record {
      blocks = opening_block sys;
      held = λ r q. sys.initial q;
      sent = λ l. 0;
      meters = λ r. record { tick = None; left = 0; locals = 0 };
    }

-- the stimuli, each under its row
abbrev pub stimuli_from : System → (row : ℕ) → List Stimulus → List (Key × AnEvent)
stimuli_from sys row [] = []
stimuli_from sys row (s ∷ ss) =
    (stimulus_key s.tick (sys.resource s.port.at) row, Stimulated s.port s.sets) ∷ stimuli_from sys (row + 1) ss

-- the timer of each E_RESTART, at tick 0
abbrev pub restart_of : System → Path → List (Key × AnEvent)
restart_of sys p =
    elim (sys.kind p) [
      | Some (Event Restart) ↦ (timer_key 0 (sys.resource p) (sys.number p), Expired p) ∷ []
      | _ ↦ []
    ]

abbrev pub opening_events : System → List Stimulus → List (Key × AnEvent)
opening_events sys stimuli = stimuli_from sys 0 stimuli ++ flat_map (restart_of sys) sys.paths

abbrev pub opening_agenda : System → List Stimulus → Agenda
opening_agenda sys stimuli = with_all (opening_events sys stimuli) no_keys

abbrev pub opening : System → List Stimulus → Config
opening sys stimuli = record { state = opening_state sys; agenda = opening_agenda sys stimuli }

-- ---- The chain

-- An event that was taken, and its effect.
pub record Taken : Type 0 where
  pub key : Key
  pub event : AnEvent
  pub effect : Effect

-- The event under the least key of the agenda is taken.
pub record TakesLeast (sys : System) (limit : ℕ) (c : Config) (t : Taken) : Type 0 where
  pub waits : c.agenda t.key ≡ Some t.event
  pub least : (j : Key) → Precedes j t.key → c.agenda j ≡ None
  pub takes : Takes sys limit c.state t.key t.event t.effect

abbrev pub after : Config → Taken → Config
after c t = record { state = t.effect.state; agenda = agenda_after t.key c.agenda t.effect }

-- nothing is taken after a stop
abbrev pub NothingAfter : Option Reason → List Taken → Type 0
NothingAfter None ts = Unit {0}
NothingAfter (Some r) ts = ts ≡ []

abbrev pub Chain : System → (limit : ℕ) → Config → List Taken → Type 0
Chain sys limit c [] = Unit {0}
Chain sys limit c (t ∷ ts) = TakesLeast sys limit c t × NothingAfter t.effect.stop ts × Chain sys limit (after c t) ts

abbrev pub last : Config → List Taken → Config
last c [] = c
last c (t ∷ ts) = last (after c t) ts

-- ---- The simulation

-- How a simulation ends.
pub data Ending : Type 0 where
  AtHorizon : ℕ → Ending
  AtStop : (tick resource : ℕ) → Reason → Ending

abbrev pub ending_by : Option Reason → Key → Ending → Ending
ending_by None k rest = rest
ending_by (Some r) k rest = AtStop k.tick k.resource r

abbrev pub ending_of : (horizon : ℕ) → List Taken → Ending
ending_of horizon [] = AtHorizon horizon
ending_of horizon (t ∷ ts) = ending_by t.effect.stop t.key (ending_of horizon ts)

abbrev pub lines_of : List Taken → List Line
lines_of [] = []
lines_of (t ∷ ts) = t.effect.lines ++ lines_of ts

-- nothing is left below the horizon, unless a reason has stopped the simulation
abbrev pub RestsAt : (horizon : ℕ) → Ending → Agenda → Type 0
RestsAt horizon (AtHorizon h) agenda = NoneBelow agenda horizon
RestsAt horizon (AtStop tick resource r) agenda = Unit {0}

-- The simulation of a system with its stimuli, to a horizon, with a limit on the steps of one tick.
pub record IsSimulation (sys : System) (stimuli : List Stimulus) (horizon limit : ℕ) (ts : List Taken) : Type 0 where
  pub chain : Chain sys limit (opening sys stimuli) ts
  pub below : All (λ t. t.key.tick < horizon) ts
  pub rests : RestsAt horizon (ending_of horizon ts) (last (opening sys stimuli) ts).agenda

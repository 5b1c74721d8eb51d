-- What the state of a run of all resources represents (this project's profile).
use Rattle.std.specs.Prelude.{◌≡◌, ◌≤◌, ◌++◌, ℕ, Bool, [], length, map, Option, Some, slice_get, unwrap_or}
use Rattle.fb_types.specs.Headline.{Inputs, system_of}
use Rattle.fb_types.specs.Numbers.{line_of}
use Rattle.fb_types.specs.States.{State}
use Rattle.fb_types.specs.States as model
use Rattle.fb_types.specs.Takes.{Effect, Takes, agenda_after}
use Rattle.fb_types.specs.declared.key.Key.{Key}
use Rattle.fb_types.specs.declared.value.Reason.{Reason}
use Rattle.fb_agenda.specs.declared.least.Least.{Least}
use Rattle.fb_net.specs.declared.resource.Forest.{Forest}
use Rattle.fb_resource.specs.Counts.{IsMetered}
use Rattle.fb_resource.specs.Posts.{CountsAre}
use Rattle.fb_resource.specs.Takings.{AreReady, IsHere, with_least_event}
use Rattle.fb_resource.specs.Waiting.{meaning}
use Rattle.fb_resource.specs.declared.tick_counts.TickCounts.{TickCounts}
use Rattle.fb_sim_machine.specs.declared.machine.Machine.{Machine}

-- The machine is one of the system: blocks and counts for each resource, and all messages are delivered.
pub record IsReady (i : Inputs) (limit tick : ℕ) (m : Machine) : Type 0 where
  pub trees_counted : length m.trees.items ≡ length (system_of i).resource_names
  pub trees : (r : ℕ) (t : Forest) → slice_get m.trees.items r ≡ Some t → t.resource ≡ r
  pub meters_counted : length m.meters.items ≡ length (system_of i).resource_names
  pub meters : (r : ℕ) (x : TickCounts) → slice_get m.meters.items r ≡ Some x → IsMetered limit x
  pub past : (r : ℕ) (x : TickCounts) → slice_get m.meters.items r ≡ Some x → unwrap_or x.tick 0 ≤ tick
  pub traffic : AreReady i tick m.traffic
  pub delivered : m.traffic.mail.items ≡ []

-- What the machine has is what a state and an agenda of the model have.
pub record IsAt (i : Inputs) (s : State) (a : model.Agenda) (m : Machine) : Type 0 where
  pub here : (r : ℕ) (t : Forest) (x : TickCounts) → slice_get m.trees.items r ≡ Some t → slice_get m.meters.items r ≡ Some x → IsHere i s r 0 t x
  pub sent : CountsAre m.traffic.sent.items s.sent
  pub agenda : (j : Key) → a j ≡ meaning i m.traffic.agenda j

-- The machine took the event of a key as the model does, whether or not its resource stops.
pub record IsTaken (i : Inputs) (limit : ℕ) (s : State) (a : model.Agenda) (k : Key) (e : model.Event) (stop : Option Reason) (old new : Machine) : Type 0 where
  pub effect : Effect
  pub takes : Takes (system_of i) limit s k e effect
  pub stops : effect.stop ≡ stop
  pub lines : map (line_of (system_of i)) new.traffic.outbox.lines.items ≡ map (line_of (system_of i)) old.traffic.outbox.lines.items ++ effect.lines
  pub at : IsAt i effect.state (agenda_after k a effect) new

-- the machine on whose agenda the local event in `Least` waits in addition, if it was raised
abbrev pub with_raised : Bool → Least → Machine → Machine
with_raised b l m = record m { traffic = with_least_event b l m.traffic }

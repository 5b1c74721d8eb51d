-- How far a resource has come in a run (this project's profile).
use Rattle.std.specs.Prelude.{◌≡◌, ◌<◌, ◌≤◌, ◌==◌, ℕ, true, false, List, map, Option, Some, None, unwrap_or}
use Rattle.fb_types.specs.Cores.{clock_after}
use Rattle.fb_types.specs.Headline.{Inputs, system_of}
use Rattle.fb_types.specs.Machines.{Machine, Item, Local, Each, Chain, end, Run, sent_by, lines_of}
use Rattle.fb_types.specs.Machines as machines
use Rattle.fb_types.specs.Numbers.{line_of}
use Rattle.fb_types.specs.Parts.{count_of, machine, part_of}
use Rattle.fb_types.specs.States.{State}
use Rattle.fb_types.specs.declared.key.Key.{Key}
use Rattle.fb_agenda.specs.Agendas.{waiting}
use Rattle.fb_types.specs.declared.run.Event.{Event}
use Rattle.fb_types.specs.declared.value.Reason.{Reason}
use Rattle.fb_net.specs.declared.resource.Forest.{Forest}
use Rattle.fb_resource.specs.Counts.{IsMetered}
use Rattle.fb_resource.specs.Posts.{CountsAre, arriving}
use Rattle.fb_resource.specs.Takings.{AreReady, IsHere}
use Rattle.fb_resource.specs.Waiting.{meaning}
use Rattle.fb_resource.specs.declared.traffic.Traffic.{Traffic}
use Rattle.fb_resource.specs.declared.resource.Resource.{Resource}
use Rattle.fb_resource.specs.declared.tick_counts.TickCounts.{TickCounts}

-- ---- By the definitions alone

module _ (M : Machine) where
  -- By what it took below a tick the resource has come from one state to another, and nothing stopped it.
  pub record HasCome (r t : ℕ) (from to : Local M) (ls : List M.Line) (ms : List (Key × M.Event)) : Type 0 where
    pub items : List (Item M)
    pub chain : Chain M r from items
    pub below : Each (λ (i : Item M). i.key.tick < t) items
    pub ends : end M from items ≡ to
    pub clock : (bound : ℕ) → clock_after M bound items ≡ bound
    pub lines : ls ≡ lines_of M items
    pub sent : ms ≡ sent_by M items

  -- It has taken all below the tick, or up to its stop.
  pub record HasEnded (r t : ℕ) (from to : Local M) (now : ℕ) (ls : List M.Line) (ms : List (Key × M.Event)) : Type 0 where
    pub items : List (Item M)
    pub run : Run M r from t items
    pub ends : end M from items ≡ to
    pub clock : now ≡ clock_after M t items
    pub lines : ls ≡ lines_of M items
    pub sent : ms ≡ sent_by M items

-- ---- In code

-- What a resource holds in a run, with the counts of the tick of its last event, and what its takings gave.
pub record Running : Type 0 where
  pub tree : Forest
  pub clock : ℕ
  pub meter : TickCounts
  pub traffic : Traffic
  pub stopped : Option Reason

abbrev pub in_run : Resource → TickCounts → Traffic → Running
in_run x m q = record { tree = x.tree; clock = x.clock; meter = m; traffic = q; stopped = x.stopped }

-- the resource to which the agenda and the counts of its traffic have come back
abbrev pub with_traffic : Resource → Traffic → Resource
with_traffic x q = record x { agenda = q.agenda; sent = q.sent }

-- the resource by itself
abbrev pub at_rest : Running → Resource
at_rest x = record { tree = x.tree; clock = x.clock; agenda = x.traffic.agenda; sent = x.traffic.sent; stopped = x.stopped }

-- In a run it represents one by itself, as at rest, and from its clock on its counts are those of the state.
pub record RepresentsRunning (i : Inputs) (limit : ℕ) (l : Local (machine (system_of i) limit)) (x : Running) : Type 0 where
  pub state : State
  pub part : l.part ≡ part_of (system_of i) x.tree.resource state
  pub here : IsHere i state x.tree.resource x.clock x.tree x.meter
  pub counts : CountsAre x.traffic.sent.items state.sent
  pub own : (j : Key) → (j.class == 2) ≡ true → l.own j ≡ None
  pub inbox : (j : Key) → (j.class == 2) ≡ false → l.inbox j ≡ None
  pub waits : (j : Key) → j.resource ≡ x.tree.resource → machines.waiting (machine (system_of i) limit) l j ≡ meaning i x.traffic.agenda j
  pub stop : l.stop ≡ x.stopped

-- A resource of the system, in a run: its own events wait, none before its clock.
pub record IsRunning (i : Inputs) (limit : ℕ) (x : Running) : Type 0 where
  pub named : x.tree.resource < count_of (system_of i)
  pub metered : IsMetered limit x.meter
  pub past : unwrap_or x.meter.tick 0 ≤ x.clock
  pub ready : AreReady i x.clock x.traffic
  pub home : (j : Key) (e : Event) → waiting x.traffic.agenda j ≡ Some e → j.resource ≡ x.tree.resource

-- It represents what its takings below a tick have made of what represented it. Their lines and messages are in its traffic.
pub record ComesTo (i : Inputs) (limit r t : ℕ) (from : Local (machine (system_of i) limit)) (x : Running) : Type 0 where
  pub at : Local (machine (system_of i) limit)
  pub represents : RepresentsRunning i limit at x
  pub come : HasCome (machine (system_of i) limit) r t from at (map (line_of (system_of i)) x.traffic.outbox.lines.items) (map (arriving i) x.traffic.mail.items)

-- What each turn of a series of turns rests on, and what it leaves (this project's profile).
use Rattle.std.specs.Prelude.{◌≡◌, ◌^◌, ◌<◌, ◌≤◌, ℕ, List, All, None, Some, length, slice_get}
use Rattle.fb_types.specs.Cores.{CoreStep, opening_core}
use Rattle.fb_types.specs.Headline.{stimuli_of, system_of}
use Rattle.fb_types.specs.Parts.{count_of, machine}
use Rattle.fb_types.specs.Schedules.{IsSchedule}
use Rattle.fb_types.specs.declared.run.Message.{Message}
use Rattle.fb_system.specs.Lines.{BelongsTo}
use Rattle.fb_resource.specs.Resources.{IsOf}
use Rattle.fb_resource.specs.declared.resource.Resource.{Resource}
use Rattle.fb_laws.specs.Finality.{core_of}
use Rattle.fb_window.specs.Mails.{AreGiven}
use Rattle.fb_window.specs.Noting.{AreCurrent, IsHanded}
use Rattle.fb_window.specs.Standing.{IsAt}
use Rattle.fb_window.specs.declared.turn_series.TurnSeries.{TurnSeries}

-- ---- Before

-- A resource may have a turn: the core is of the system, has a list of lines for each resource, and it is known when each
-- resource has its next event.
pub record MayTurn (w : TurnSeries) : Type 0 where
  pub of : w.system.now ≡ w.core.now.system
  pub few_steps : w.core.now.steps ≤ 10 ^ 7
  pub counted : length w.core.now.resources.items ≡ count_of (system_of w.system.now)
  pub pending : length w.core.now.pending.items ≡ length w.core.now.resources.items
  pub current : AreCurrent w.nexts.now.horizon w.core.now.resources.items w.nexts.now.ticks.items

-- The resource at an index may run below a tick.
pub record MayRun (w : TurnSeries) (index to : ℕ) : Type 0 where
  pub within : index < length w.core.now.resources.items
  pub of : (x : Resource) → slice_get w.core.now.resources.items index ≡ Some x → IsOf w.system.now x
  pub live : (x : Resource) → slice_get w.core.now.resources.items index ≡ Some x → x.stopped ≡ None
  pub ahead : (x : Resource) → slice_get w.core.now.resources.items index ≡ Some x → x.clock ≤ to
  pub early : to ≤ 10 ^ 12

-- Some schedule has led to the resources of the core.
abbrev pub HasCome : TurnSeries → Type 0
HasCome w =
    (es : List (CoreStep (machine (system_of w.core.now.system) w.core.now.steps)))
    × IsSchedule (machine (system_of w.core.now.system) w.core.now.steps) w.nexts.now.horizon (opening_core (system_of w.core.now.system) (stimuli_of w.core.now.system) w.core.now.steps) es
    × IsAt w.core.now.system w.core.now.steps (core_of w.core.now.system w.core.now.steps es) w.core.now.resources.items

-- The lines that the core keeps are lines of the system.
abbrev pub AllBelong : TurnSeries → Type 0
AllBelong w = All (λ p. All (BelongsTo (system_of w.core.now.system)) p.items) w.core.now.pending.items

-- ---- After

-- The resource at an index has received messages; all others and the lines are as they were.
pub record HasHanded (old : TurnSeries) (index : ℕ) (ms : List Message) (new : TurnSeries) : Type 0 where
  pub handed : IsHanded index ms old.core.now.resources.items new.core.now.resources.items
  pub pending : new.core.now.pending ≡ old.core.now.pending

-- Each resource has received those of the messages that go to it; the lines are as they were.
pub record HasGiven (old : TurnSeries) (ms : List Message) (new : TurnSeries) : Type 0 where
  pub given : AreGiven (system_of old.system.now) ms old.core.now.resources.items new.core.now.resources.items
  pub pending : new.core.now.pending ≡ old.core.now.pending

-- However a step ends, also where memory runs out: the series of turns is of the same system with the same limits, and lends what it
-- lent.
pub record IsSame (old new : TurnSeries) : Type 0 where
  pub system : new.system.now ≡ old.system.now
  pub core : new.core.ghost_name ≡ old.core.ghost_name
  pub nexts : new.nexts.ghost_name ≡ old.nexts.ghost_name
  pub horizon : new.nexts.now.horizon ≡ old.nexts.now.horizon
  pub inputs : new.core.now.system ≡ old.core.now.system
  pub steps : new.core.now.steps ≡ old.core.now.steps

-- How a machine pauses (this project's profile).
use Rattle.std.specs.Prelude.{◌≡◌, ◌<◌, ◌≤◌, ◌+◌, ◌++◌, ◌∷◌, ℕ, List, [], length, map, All, Some, None}
use Rattle.fb_types.specs.Headline.{Inputs, system_of}
use Rattle.fb_types.specs.Numbers.{line_of}
use Rattle.fb_types.specs.Keys.{NoneBelow}
use Rattle.fb_types.specs.Machines.{Each}
use Rattle.fb_types.specs.Simulation.{Taken, Chain, AtStop, ending_of, last, lines_of}
use Rattle.fb_types.specs.States.{Config}
use Rattle.fb_sim_machine.specs.Completions.{Completes, Reaches}
use Rattle.fb_sim_machine.specs.Counts.{fuel_of_all}
use Rattle.fb_sim_machine.specs.Machines.{IsAt, IsReady}
use Rattle.fb_sim_machine.specs.declared.machine.Machine.{Machine}
use Rattle.fb_sim_machine.specs.declared.pause.Pause.{Pause}
use Rattle.fb_sim_machine.specs.declared.pause.Step.{Step}
use Rattle.fb_sim_machine.specs.declared.pause.Step.TheVariants.{Nothing, Took, Stopped}
use Rattle.fb_sim_machine.specs.declared.pause.Pause.TheVariants.{Lines, Horizon, Stop}

-- The run has continued from a configuration to one where the machine is now; or it is complete.
abbrev pub Pauses : (i : Inputs) (horizon limit : ℕ) (c : Config) (old new : Machine) → Pause → Type 0
Pauses i horizon limit c old new Lines =
    (d : Config) × (taken : List Taken)
    × IsAt i d.state d.agenda new × Reaches i horizon limit c d taken
    × (map (line_of (system_of i)) new.traffic.outbox.lines.items ≡ map (line_of (system_of i)) old.traffic.outbox.lines.items ++ lines_of taken)
Pauses i horizon limit c old new Horizon = Completes i horizon limit c old.traffic.outbox.lines.items new.traffic.outbox.lines.items None
Pauses i horizon limit c old new (Stop m) =
    (m.resource < length (system_of i).resource_names) × Completes i horizon limit c old.traffic.outbox.lines.items new.traffic.outbox.lines.items (Some m)

-- a run that can go on has used up steps
abbrev pub IsSooner : (horizon limit : ℕ) (old new : Machine) → Pause → Type 0
IsSooner horizon limit old new Lines = fuel_of_all horizon limit new.meters.items < fuel_of_all horizon limit old.meters.items
IsSooner horizon limit old new Horizon = Unit {0}
IsSooner horizon limit old new (Stop m) = Unit {0}

-- ---- Where a machine stands when it pauses

-- From a configuration this was taken, and the machine is at what it leads to. Only the last event may have stopped its
-- resource.
pub record HasGone (i : Inputs) (limit : ℕ) (c : Config) (old new : Machine) (taken : List Taken) : Type 0 where
  pub chain : Chain (system_of i) limit c taken
  pub at : IsAt i (last c taken).state (last c taken).agenda new
  pub lines : map (line_of (system_of i)) new.traffic.outbox.lines.items ≡ map (line_of (system_of i)) old.traffic.outbox.lines.items ++ lines_of taken

-- From a tick on at which the old machine could take events, the new one can from this later tick on, and none of the events was taken after it.
pub record IsLater (i : Inputs) (limit from t : ℕ) (new : Machine) (taken : List Taken) : Type 0 where
  pub later : from ≤ t
  pub ready : IsReady i limit t new
  pub before : All (λ u. u.key.tick ≤ t) taken

-- The same, whatever tick below the horizon that was.
abbrev pub Onward : (i : Inputs) (horizon limit t : ℕ) (old new : Machine) → List Taken → Type 0
Onward i horizon limit t old new taken = (from : ℕ) → from ≤ horizon → IsReady i limit from old → IsLater i limit from t new taken

-- After these events there were fewer lines than this, unless none of them was taken.
abbrev pub HasFewer : (many : ℕ) (old : Machine) → List Taken → Type 0
HasFewer many old taken = (taken ≡ [] → ⊥) → length old.traffic.outbox.lines.items + length (lines_of taken) < many

-- Why it pauses there. With Lines at least one event was taken, and there are as many lines as were asked for only after the last one. If one line was
-- asked for, only the last event gave lines, and none did where the horizon was reached.
abbrev pub PausesFor : (i : Inputs) (horizon limit many : ℕ) (c : Config) (old new : Machine) → List Taken → Pause → Type 0
PausesFor i horizon limit many c old new taken Lines =
    Each (λ t. t.effect.stop ≡ None) taken × (before : List Taken) × (t : Taken) × (taken ≡ before ++ t ∷ [])
    × (many ≤ length new.traffic.outbox.lines.items) × (many ≡ 1 → lines_of before ≡ []) × Each (λ l. l.key ≡ t.key) t.effect.lines
    × Onward i horizon limit t.key.tick old new taken × HasFewer many old before
PausesFor i horizon limit many c old new taken Horizon =
    Each (λ t. t.effect.stop ≡ None) taken × NoneBelow (last c taken).agenda horizon × (many ≡ 1 → lines_of taken ≡ [])
    × ((from : ℕ) → from ≤ horizon → IsReady i limit from old → (t : ℕ) × (t ≤ horizon) × IsLater i limit from t new taken) × HasFewer many old taken
PausesFor i horizon limit many c old new taken (Stop m) =
    (m.resource < length (system_of i).resource_names) × (ending_of horizon taken ≡ AtStop m.tick m.resource m.reason) × (m.tick < horizon)
    × Onward i horizon limit m.tick old new taken × (before : List Taken) × (t : Taken) × (taken ≡ before ++ t ∷ []) × (many ≡ 1 → lines_of before ≡ [])
    × HasFewer many old before

-- All that a pause says: what was taken is below the horizon.
abbrev pub Stands : (i : Inputs) (horizon limit many : ℕ) (c : Config) (old new : Machine) → Pause → Type 0
Stands i horizon limit many c old new p =
    (taken : List Taken) × HasGone i limit c old new taken × All (λ t. t.key.tick < horizon) taken × PausesFor i horizon limit many c old new taken p

-- ---- One event

-- The least event was taken, if its tick is below the horizon; else the machine is as it was.
abbrev pub Steps : (i : Inputs) (horizon limit : ℕ) (c : Config) (old new : Machine) → Step → Type 0
Steps i horizon limit c old new Nothing =
    NoneBelow c.agenda horizon × IsAt i c.state c.agenda new × (new.traffic.outbox.lines.items ≡ old.traffic.outbox.lines.items)
    × ((from : ℕ) → IsReady i limit from old → IsReady i limit from new)
Steps i horizon limit c old new (Took tick) =
    (t : Taken) × HasGone i limit c old new (t ∷ []) × (t.key.tick ≡ tick) × (tick < horizon) × (t.effect.stop ≡ None)
    × ((from : ℕ) → IsReady i limit from old → (from ≤ tick) × IsReady i limit tick new)
Steps i horizon limit c old new (Stopped m) =
    (t : Taken) × HasGone i limit c old new (t ∷ []) × (t.key.tick ≡ m.tick) × (m.tick < horizon) × (t.key.resource ≡ m.resource) × (t.effect.stop ≡ Some m.reason)
    × (m.resource < length (system_of i).resource_names) × ((from : ℕ) → IsReady i limit from old → (from ≤ m.tick) × IsReady i limit m.tick new)

-- The counts of one tick of a resource (this project's profile).
use Rattle.std.specs.Prelude.{◌≡◌, ◌+◌, ◌-◌, ◌*◌, ◌^◌, ◌≤◌, ℕ, false, suc, Some, None}
use Rattle.fb_types.specs.States.{Meter}
use Rattle.fb_types.specs.Takes.{begun, is_tick}
use Rattle.fb_resource.specs.declared.tick_counts.TickCounts as counted

abbrev pub meter_of : counted.TickCounts → Meter
meter_of m = record { tick = m.tick; left = m.meter.left; locals = m.locals }

-- the counts before a step was used
abbrev pub before_step : counted.TickCounts → counted.TickCounts
before_step m = record { tick = m.tick; meter = record { left = suc m.meter.left }; locals = m.locals }

-- No step is left.
abbrev pub HasNoSteps : Meter → Type 0
HasNoSteps m = m.left ≡ 0

-- From a tick on it is one from which of two meters a resource counts: each tick begins with the same.
abbrev pub BeginAlike : (from : ℕ) → Meter → Meter → Type 0
BeginAlike from a b = (limit t : ℕ) → from ≤ t → begun limit t a ≡ begun limit t b

-- No step of a tick from this one on was used.
abbrev pub IsUnused : (from : ℕ) → Meter → Type 0
IsUnused from m = (t : ℕ) → from ≤ t → is_tick m.tick t ≡ false

-- In one tick there are at most this many local events for each step that was used.
pub record IsMetered (limit : ℕ) (m : counted.TickCounts) : Type 0 where
  pub left : m.meter.left ≤ limit
  pub locals : m.locals ≤ (limit - m.meter.left) * 2 ^ 64

-- what is left of the steps of all ticks below the horizon in one resource
abbrev pub fuel : (horizon limit : ℕ) → counted.TickCounts → ℕ
fuel horizon limit m = elim m.tick [ None ↦ (horizon + 1) * (limit + 1) | Some t ↦ (horizon - t) * (limit + 1) + m.meter.left ]

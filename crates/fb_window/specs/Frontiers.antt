-- The frontier of final lines, as it is found among the resources (this project's profile).
use Rattle.std.specs.Prelude.{◌≡◌, ℕ, ◌<◌, ◌≤◌, ◌⊎◌, not, nat_lt, is_some, List, ◌++◌, length, Some, None, filter, slice_get}
use Rattle.std.specs.Global.{Vec}
use Rattle.fb_types.specs.Cores.{floor_of}
use Rattle.fb_types.specs.declared.run.Line.{Line}
use Rattle.fb_types.specs.declared.run.StopMark.{StopMark}
use Rattle.fb_types.specs.declared.value.Reason.{Reason}
use Rattle.fb_resource.specs.declared.resource.Resource.{Resource}
use Rattle.fb_trace.specs.Merging.{Rises, tick_of}
use Rattle.fb_laws.specs.Finality.{Edge, until}
use Rattle.fb_window.specs.declared.ends.End.{End}
use Rattle.fb_window.specs.declared.ends.End.TheVariants.{Open, Horizon, Stop}
use Rattle.fb_window.specs.declared.frontier.Frontier.{Frontier}

abbrev pub edge_of : Frontier → Edge
edge_of f = record { tick = f.tick; resource = f.resource; within = f.within }

-- no event of a resource comes before the least tick: then it sends nothing more before this one
abbrev pub floor_at : (least : ℕ) → Resource → ℕ
floor_at least x = floor_of x.stopped x.clock least

-- The edge is at the least floor of the first this many resources, and at the first resource that has it.
pub record IsFrontierTo (m : ℕ) (xs : List Resource) (n : ℕ) (e : Edge) : Type 0 where
  pub least : (r : ℕ) (x : Resource) → r < n → slice_get xs r ≡ Some x → (e.tick < floor_at m x) ⊎ ((e.tick ≡ floor_at m x) × (e.resource ≤ r))
  pub there : 0 < n → (x : Resource) × (e.resource < n) × (slice_get xs e.resource ≡ Some x) × (floor_at m x ≡ e.tick) × (e.within ≡ is_some x.stopped)

-- so of all
abbrev pub IsFrontier : (least : ℕ) → List Resource → Edge → Type 0
IsFrontier least xs e = IsFrontierTo least xs (length xs) e

-- ---- Lines

-- Lines are cut in two; where their ticks do not fall, at this tick.
pub record IsSplit (tick : ℕ) (lines before from : List Line) : Type 0 where
  pub parts : lines ≡ before ++ from
  pub front : Rises tick_of lines → before ≡ filter (λ x. nat_lt x.key.tick tick) lines
  pub rest : Rises tick_of lines → from ≡ filter (λ x. not (nat_lt x.key.tick tick)) lines

-- the lists, each cut at the edge
pub record AreCut (e : Edge) (lists befores froms : List (Vec Line)) : Type 0 where
  pub fronts : length befores ≡ length lists
  pub rests : length froms ≡ length lists
  pub each : (r : ℕ) (list : Vec Line) → slice_get lists r ≡ Some list
      → (before : Vec Line) × (from : Vec Line) × (slice_get befores r ≡ Some before) × (slice_get froms r ≡ Some from) × IsSplit (until e r) list.items before.items from.items

-- ---- The end

-- all are at the horizon, and none has stopped
abbrev pub AreAtHorizon : (horizon : ℕ) → List Resource → Type 0
AreAtHorizon horizon xs = (r : ℕ) (x : Resource) → slice_get xs r ≡ Some x → (x.stopped ≡ None) × (x.clock ≡ horizon)

-- The least of the stops, by tick, then resource.
pub record IsFirstStop (xs : List Resource) (n : ℕ) (m : StopMark) : Type 0 where
  pub there : (x : Resource) × (slice_get xs m.resource ≡ Some x) × (x.stopped ≡ Some m.reason) × (x.clock ≡ m.tick)
  pub least : (r : ℕ) (x : Resource) (reason : Reason) → r < n → slice_get xs r ≡ Some x → x.stopped ≡ Some reason → (m.tick < x.clock) ⊎ ((m.tick ≡ x.clock) × (m.resource ≤ r))

-- all that have not stopped are past a tick
abbrev pub AreAllPast : (tick : ℕ) → List Resource → Type 0
AreAllPast tick xs = (r : ℕ) (x : Resource) → slice_get xs r ≡ Some x → x.stopped ≡ None → tick < x.clock

-- no one has stopped
abbrev pub AreLive : List Resource → Type 0
AreLive xs = (r : ℕ) (x : Resource) → slice_get xs r ≡ Some x → x.stopped ≡ None

-- How far resources are.
abbrev pub IsEnd : (horizon : ℕ) → List Resource → End → Type 0
IsEnd horizon xs Open =
    (AreAtHorizon horizon xs → ⊥) × ((m : StopMark) → IsFirstStop xs (length xs) m → AreAllPast m.tick xs → ⊥)
IsEnd horizon xs Horizon = AreAtHorizon horizon xs
IsEnd horizon xs (Stop m) = IsFirstStop xs (length xs) m × AreAllPast m.tick xs

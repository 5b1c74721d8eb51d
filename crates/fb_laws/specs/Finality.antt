-- Edges in the order of lines: what of each resource's lines is final, what was handed out, and what is kept (this project's profile).
use Rattle.std.specs.Prelude.{◌≡◌, ℕ, ◌+◌, ◌<◌, ◌≤◌, ◌⊎◌, min, Bool, ◌&&◌, ◌||◌, not, ◌==◌, nat_lt, if◌then◌else◌, is_some, List, [], ◌∷◌, length, map, slice_index_or}
use Rattle.std.specs.List.{filter}
use Rattle.fb_types.specs.Headline.{Inputs, system_of, stimuli_of}
use Rattle.fb_types.specs.Machines.{Machine, Each}
use Rattle.fb_types.specs.Numbers.{line_of}
use Rattle.fb_types.specs.Parts.{machine, count_of}
use Rattle.fb_types.specs.States as model
use Rattle.fb_types.specs.Merges.{IsMerge, lines_before}
use Rattle.fb_types.specs.Cores.{Core, CoreStep, IsFloor, floor, opening_core}
use Rattle.fb_types.specs.Schedules.{core_after, IsFinal}
use Rattle.fb_types.specs.declared.run.Line.{Line}

-- A point in the order of lines, which are ordered by tick, then resource: before the lines of this tick and resource, or
-- past them.
pub record Edge : Type 0 where
  pub tick : ℕ
  pub resource : ℕ
  pub within : Bool

-- The lines of a resource to an edge are those below this tick.
abbrev pub until : Edge → (resource : ℕ) → ℕ
until e r = if (e.within && (r == e.resource)) || nat_lt r e.resource then e.tick + 1 else e.tick

module _ (M : Machine) where
  -- the lines from a tick on
  abbrev pub lines_from : (tick : ℕ) → List M.Line → List M.Line
  lines_from t xs = filter (λ x. not (nat_lt (M.line_tick x) t)) xs

  -- the ticks of the lines do not fall
  abbrev pub TicksRise : List M.Line → Type 0
  TicksRise [] = Unit {0}
  TicksRise (x ∷ xs) = Each (λ (y : M.Line). M.line_tick x ≤ M.line_tick y) xs × TicksRise xs

  -- A line at a tick and resource is final: it is so for some tick that no event and no message precedes. The greatest
  -- such tick allows the most.
  abbrev pub IsFinalIn : (count : ℕ) → Core M → (tick resource : ℕ) → Type 0
  IsFinalIn count c t r = (m : ℕ) × IsFloor M c m × IsFinal M count c m t r

  -- The greatest tick up to the horizon that no event and no message precedes.
  pub record IsLeastTick (horizon : ℕ) (c : Core M) (m : ℕ) : Type 0 where
    pub is_floor : IsFloor M c m
    pub most : (n : ℕ) → IsFloor M c n → min n horizon ≤ m

  -- The edge at the least floor, and at the first resource that has it. It is within that resource's lines where it has stopped.
  pub record IsEdge (count : ℕ) (c : Core M) (m : ℕ) (e : Edge) : Type 0 where
    pub counted : e.resource < count
    pub at : floor M c m e.resource ≡ e.tick
    pub least : (q : ℕ) → q < count → (e.tick < floor M c m q) ⊎ ((e.tick ≡ floor M c m q) × (e.resource ≤ q))
    pub stopped : e.within ≡ is_some (c e.resource).state.stop

  -- These lines were handed out, in the order of the trace: only final ones. The rest of each resource's lines is kept.
  pub record HaveLeft (count horizon : ℕ) (c : Core M) (kept : ℕ → List M.Line) (ls : List M.Line) : Type 0 where
    pub edge : Edge
    pub final : (r t : ℕ) → r < count → t < horizon → t < until edge r → IsFinalIn count c t r
    pub merged : IsMerge M count (λ r. lines_before M (until edge r) (c r).lines) ls
    pub rest : (r : ℕ) → r < count → kept r ≡ lines_from (until edge r) (c r).lines

  -- No line that is kept is final.
  abbrev pub NoneIsFinal : (count : ℕ) → Core M → (kept : ℕ → List M.Line) → Type 0
  NoneIsFinal count c kept = (r : ℕ) → r < count → Each (λ (x : M.Line). IsFinalIn count c (M.line_tick x) r → ⊥) (kept r)

-- ---- In a run

-- the core after steps from the opening
abbrev pub core_of : (i : Inputs) (limit : ℕ) → List (CoreStep (machine (system_of i) limit)) → Core (machine (system_of i) limit)
core_of i limit es = core_after (machine (system_of i) limit) (opening_core (system_of i) (stimuli_of i) limit) es

-- the lines of a resource among the lists of all, as the system names them
abbrev pub lines_in : (i : Inputs) (limit : ℕ) → (lists : List (List Line)) → (resource : ℕ) → List model.Line
lines_in i limit ps r = map (line_of (system_of i)) (slice_index_or ps r [])

-- The lines were handed out of the core, and these lists are kept, one for each resource. Some of their lines may be final by now.
pub record HasKept (i : Inputs) (limit horizon : ℕ) (c : Core (machine (system_of i) limit)) (kept : List (List Line)) (ls : List model.Line) : Type 0 where
  pub counted : length kept ≡ count_of (system_of i)
  pub left : HaveLeft (machine (system_of i) limit) (count_of (system_of i)) horizon c (lines_in i limit kept) ls

-- All final lines were handed out of the core: no line that is kept is final.
pub record HasHanded (i : Inputs) (limit horizon : ℕ) (c : Core (machine (system_of i) limit)) (kept : List (List Line)) (ls : List model.Line) : Type 0 where
  pub handed : HasKept i limit horizon c kept ls
  pub waits : NoneIsFinal (machine (system_of i) limit) (count_of (system_of i)) c (lines_in i limit kept)

-- Lines of several resources as one list, by tick, then resource (this project's profile).
use Rattle.std.specs.Prelude.{◌≡◌, ℕ, ◌<◌, ◌≤◌, ◌⊎◌, ◌==◌, nat_lt, List, [], ◌∷◌}
use Rattle.std.specs.List.{filter}
use Rattle.fb_types.specs.Machines.{Machine, Each}

module _ (M : Machine) where
  -- by tick, then resource
  abbrev pub NotAfter : M.Line → M.Line → Type 0
  NotAfter x y = (M.line_tick x < M.line_tick y) ⊎ ((M.line_tick x ≡ M.line_tick y) × (M.line_resource x ≤ M.line_resource y))

  abbrev pub IsInOrder : List M.Line → Type 0
  IsInOrder [] = Unit {0}
  IsInOrder (x ∷ xs) = Each (NotAfter x) xs × IsInOrder xs

  -- the lines of one resource
  abbrev pub lines_at : (resource : ℕ) → List M.Line → List M.Line
  lines_at r xs = filter (λ x. M.line_resource x == r) xs

  -- the lines before a tick
  abbrev pub lines_before : (tick : ℕ) → List M.Line → List M.Line
  lines_before t xs = filter (λ x. nat_lt (M.line_tick x) t) xs

  -- All lines of the resources' lists, by tick, then resource, those of one resource in their own order.
  pub record IsMerge (count : ℕ) (lists : ℕ → List M.Line) (all : List M.Line) : Type 0 where
    pub order : IsInOrder all
    pub parts : (r : ℕ) → r < count → lines_at r all ≡ lists r
    pub counted : Each (λ (x : M.Line). M.line_resource x < count) all

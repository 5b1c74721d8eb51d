-- The steps that are left to all resources (this project's profile).
use Rattle.std.specs.Prelude.{◌+◌, ℕ, List, [], ◌∷◌}
use Rattle.fb_resource.specs.Counts.{fuel}
use Rattle.fb_resource.specs.declared.tick_counts.TickCounts.{TickCounts}

-- what is left of the steps of all ticks below the horizon in all resources
abbrev pub fuel_of_all : (horizon limit : ℕ) → List TickCounts → ℕ
fuel_of_all horizon limit [] = 0
fuel_of_all horizon limit (m ∷ ms) = fuel horizon limit m + fuel_of_all horizon limit ms

-- Lines of several resources as one list, by tick, then resource (this project's profile).
use Rattle.std.specs.Prelude.{◌≡◌, ℕ, ◌<◌, ◌≤◌, ◌⊎◌, ◌==◌, Some, List, [], ◌∷◌, ◌++◌, length, slice_get, Vec}
use Rattle.std.specs.List.{filter}
use Rattle.std.specs.declared.alloc.Global.{Global}
use Rattle.fb_types.specs.Machines.{Each}
use Rattle.fb_types.specs.declared.run.Line.{Line}

abbrev pub Lists : Type 0
Lists = List (Vec Line Global)

abbrev pub tick_of : Line → ℕ
tick_of x = x.key.tick

abbrev pub resource_of : Line → ℕ
resource_of x = x.key.resource

-- the numbers of the elements do not fall
abbrev pub Rises : {X : Type 0} → (X → ℕ) → List X → Type 0
Rises n [] = Unit {0}
Rises n (x ∷ xs) = Each (λ y. n x ≤ n y) xs × Rises n xs

-- lines of one resource, whose ticks do not fall
pub record IsRising (r : ℕ) (xs : List Line) : Type 0 where
  pub mine : Each (λ x. resource_of x ≡ r) xs
  pub rise : Rises tick_of xs

-- The list at each index has lines of that resource.
abbrev pub AreRising : Lists → Type 0
AreRising lists = (r : ℕ) (list : Vec Line Global) → slice_get lists r ≡ Some list → IsRising r list.items

-- all lines, one list after another
abbrev pub flat : Lists → List Line
flat [] = []
flat (v ∷ vs) = v.items ++ flat vs

-- by tick, then resource
abbrev pub NotAfter : Line → Line → Type 0
NotAfter x y = (tick_of x < tick_of y) ⊎ ((tick_of x ≡ tick_of y) × (resource_of x ≤ resource_of y))

abbrev pub IsInOrder : List Line → Type 0
IsInOrder [] = Unit {0}
IsInOrder (x ∷ xs) = Each (NotAfter x) xs × IsInOrder xs

-- All lines of the lists, by tick, then resource, those of one resource in their own order.
pub record AreMerged (lists : Lists) (all : List Line) : Type 0 where
  pub order : IsInOrder all
  pub parts : (r : ℕ) (list : Vec Line Global) → slice_get lists r ≡ Some list → filter (λ x. resource_of x == r) all ≡ list.items
  pub counted : Each (λ x. resource_of x < length lists) all

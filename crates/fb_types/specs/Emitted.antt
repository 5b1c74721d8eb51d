-- Emissions of which the first is in place.
use Rattle.std.specs.Prelude.{◌≡◌, Bool, false, true, List, [], ◌∷◌}
use Rattle.fb_types.specs.declared.run.Emission.{Emission}

-- all emissions in their order; where there is none, an earlier one is in place
abbrev pub in_order : Bool → Emission → List Emission → List Emission
in_order false earlier others = []
in_order true first others = first ∷ others

-- Without a first emission there are no others.
abbrev pub AreAfter : Bool → List Emission → Type 0
AreAfter false others = others ≡ []
AreAfter true others = Unit {0}

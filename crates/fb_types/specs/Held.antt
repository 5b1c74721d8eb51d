-- The elements of a list, in place or on the heap, as the list of them.
use Rattle.std.specs.Prelude.{List, [], ◌∷◌}
use Rattle.fb_types.specs.declared.few.Held.{Held}
use Rattle.fb_types.specs.declared.few.Held.TheVariants.{Nothing, One, Several}

abbrev pub all_held : {T : Type 0} → Held T → List T
all_held Nothing = []
all_held (One item) = item ∷ []
all_held (Several items) = items.items

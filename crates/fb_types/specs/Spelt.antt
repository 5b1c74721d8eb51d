-- The bytes of a name, in place or on the heap, as the list of them (this project's own).
use Rattle.std.specs.Prelude.{ℕ, List}
use Rattle.fb_types.specs.declared.name.Spelling.{Spelling}
use Rattle.fb_types.specs.declared.name.Spelling.TheVariants.{Short, Long}

abbrev pub spelt : Spelling → List ℕ
spelt (Short bytes) = bytes
spelt (Long bytes) = bytes

-- The values of a message, in place or on the heap, as the list of them.
use Rattle.std.specs.Prelude.{List, [], ◌∷◌}
use Rattle.fb_types.specs.declared.message_values.HeldValues.{HeldValues}
use Rattle.fb_types.specs.declared.message_values.HeldValues.TheVariants.{Nothing, Truth, Number, Several}
use Rattle.fb_types.specs.declared.run.Carried.{Carried}
use Rattle.fb_types.specs.declared.value.Value.TheVariants as value

abbrev pub values_in : HeldValues → List Carried
values_in Nothing = []
values_in (Truth instance variable truth) = record { instance = instance; variable = variable; value = value.Bool truth } ∷ []
values_in (Number instance variable number) = record { instance = instance; variable = variable; value = value.Whole number } ∷ []
values_in (Several values) = values.items

-- What a frame represents: the values and the types of its variables, by their names (this project's profile).
use Rattle.std.specs.Prelude.{ℕ, List, map, position, Option, Some, None, Bool}
use Rattle.fb_types.specs.Names.{Name, same_name}
use Rattle.fb_types.specs.Values.{Values, Types}
use Rattle.fb_types.specs.Blocks.{named, among}
use Rattle.fb_types.specs.Flat.{zero_value}
use Rattle.fb_types.specs.declared.value.Ty.{Ty}
use Rattle.fb_types.specs.declared.value.Ty.TheVariants.{Bool as Boolean}
use Rattle.fb_st.specs.declared.frame.Slot.{Slot}

abbrev pub names_of : List Slot → List Name
names_of = map (λ s. s.name)

-- What the variables hold. A name that is no variable's, which no accepted text has, counts as 0, as it does in the flat system.
abbrev pub values_of : List Slot → Values
values_of slots n = elim (named (λ s. s.name) n slots) [ None ↦ zero_value | Some s ↦ s.value ]

-- the index of the variable of a name, or none where there is no such variable
abbrev pub index_of : Name → List Slot → Option ℕ
index_of n = position (λ s. same_name n s.name)

-- A variable's name, with its type.
abbrev pub Declared : Type 0
Declared = Name × Ty

-- the variables, in their order
abbrev pub declared_in : List Slot → List Declared
declared_in = map (λ s. (s.name, s.ty))

-- the type of each variable
abbrev pub types_in : List Declared → Types
types_in ds n = elim (named (λ d. d.0) n ds) [ None ↦ Boolean | Some d ↦ d.1 ]

-- whether there is a variable of the name
abbrev pub is_declared : List Declared → Name → Bool
is_declared ds n = among (map (λ d. d.0) ds) n

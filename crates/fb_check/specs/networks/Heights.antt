-- Where composite types contain themselves, or are too high (E25; IEC 61499-1, 5.3; the height is this project's
-- profile).
use Rattle.std.specs.Prelude.{◌≡◌, ℕ, zero, suc, List, map, Bool, false, Option, Some, None, is_some, option_and_then, position, slice_get, unwrap_or}
use Rattle.fb_types.specs.Blocks.{Composite}
use Rattle.fb_types.specs.Flat.{type_named}
use Rattle.fb_types.specs.Joined.{Descends}
use Rattle.fb_types.specs.declared.library.BlockType.TheVariants as block
use Rattle.fb_types.specs.declared.library.CompositeType.{CompositeType}
use Rattle.fb_types.specs.declared.library.Instance.{Instance}
use Rattle.fb_types.specs.declared.library.Library.{Library}
use Rattle.fb_check_names.specs.declared.numbers.TypeNumber.{TypeNumber}
use Rattle.fb_check_names.specs.declared.numbers.TypeNumber.TheVariants as number
use Rattle.fb_check_names.specs.declared.numbers.NetworkNumbers.{NetworkNumbers}
use Rattle.fb_check_names.specs.declared.location.TooHighAt.{TooHighAt}
use Rattle.fb_check_names.specs.declared.location.TooHighAt.TheVariants.{Circle, Height}

-- ---- Marks, one for each block type

-- whether a type is marked; event blocks never are
abbrev pub is_marked : List Bool → TypeNumber → Bool
is_marked marks (number.Event k) = false
is_marked marks (number.Declared t) = unwrap_or (slice_get marks t) false

-- the first component that is of a marked type
abbrev pub first_marked_component : List Bool → Option NetworkNumbers → Option ℕ
first_marked_component marks None = None
first_marked_component marks (Some x) = position (is_marked marks) x.types

-- whether a composite type contains a marked one
abbrev pub holds_marked : List Bool → Option NetworkNumbers → Bool
holds_marked marks o = is_some (first_marked_component marks o)

-- the marks after these rounds; at first all composite types are marked
abbrev pub marks_after : ℕ → List (Option NetworkNumbers) → List Bool
marks_after zero xs = map is_some xs
marks_after (suc n) xs = map (holds_marked (marks_after n xs)) xs

-- the mark of the type at the index; where there is no type there is no mark
abbrev pub mark_at : List Bool → ℕ → Bool
mark_at marks k = unwrap_or (slice_get marks k) false

abbrev pub HasNoMark : List Bool → Type 0
HasNoMark marks = (k : ℕ) → mark_at marks k ≡ false

-- The marks are those after some rounds, and one more round changes none.
pub record AreLasting (xs : List (Option NetworkNumbers)) (marks : List Bool) : Type 0 where
  pub rounds : ℕ
  pub are : marks ≡ marks_after rounds xs
  pub stay : map (holds_marked marks) xs ≡ marks

-- No mark lasts.
abbrev pub NoneLasts : List (Option NetworkNumbers) → Type 0
NoneLasts xs = (marks : List Bool) × AreLasting xs marks × HasNoMark marks

-- ---- Ways down, by number

-- the index of the type, if it is declared
abbrev pub declared_index : Option TypeNumber → Option ℕ
declared_index None = None
declared_index (Some (number.Event k)) = None
declared_index (Some (number.Declared j)) = Some j

abbrev pub type_inside : Option NetworkNumbers → (component : ℕ) → Option ℕ
type_inside None i = None
type_inside (Some x) i = declared_index (slice_get x.types i)

-- the index of the type of the first component that is of a marked type
abbrev pub below : List (Option NetworkNumbers) → List Bool → ℕ → Option ℕ
below xs marks k = option_and_then (λ o. option_and_then (type_inside o) (first_marked_component marks o)) (slice_get xs k)

-- The composite type at the one index has a component of the type at the other.
pub record IsPart (xs : List (Option NetworkNumbers)) (j k : ℕ) : Type 0 where
  pub numbers : NetworkNumbers
  pub holder : slice_get xs j ≡ Some (Some numbers)
  pub component : ℕ
  pub of_type : slice_get numbers.types component ≡ Some (number.Declared k)

-- a number of steps down
abbrev pub Steps : List (Option NetworkNumbers) → (steps : ℕ) → (from to : ℕ) → Type 0
Steps xs zero j k = j ≡ k
Steps xs (suc n) j k = (m : ℕ) × IsPart xs j m × Steps xs n m k

abbrev pub LeadsTo : List (Option NetworkNumbers) → (from to : ℕ) → Type 0
LeadsTo xs j k = (n : ℕ) × Steps xs n j k

-- a number of steps, each to the type of the first component that is of a marked type
abbrev pub Walks : List (Option NetworkNumbers) → List Bool → (steps : ℕ) → (from to : ℕ) → Type 0
Walks xs marks zero j k = j ≡ k
Walks xs marks (suc n) j k = (m : ℕ) × (below xs marks j ≡ Some m) × Walks xs marks n m k

-- Such steps, one or more, lead from the type to itself.
abbrev pub ComesBack : List (Option NetworkNumbers) → List Bool → ℕ → Type 0
ComesBack xs marks k = (n : ℕ) × Walks xs marks (suc n) k k

-- The type of the component leads to the one at the index.
pub record LeadsBack (xs : List (Option NetworkNumbers)) (k : ℕ) (o : Option NetworkNumbers) (i : ℕ) : Type 0 where
  pub through : ℕ
  pub inside : type_inside o i ≡ Some through
  pub leads : LeadsTo xs through k

abbrev pub HoldsNone : List Bool → Option NetworkNumbers → Type 0
HoldsNone marks o = first_marked_component marks o ≡ None

-- the type at the index has a component of a marked type
abbrev pub IsHolder : List (Option NetworkNumbers) → List Bool → ℕ × ℕ → Type 0
IsHolder xs marks r = (o : Option NetworkNumbers) × (slice_get xs r.0 ≡ Some o) × (first_marked_component marks o ≡ Some r.1)

-- the type at the index leads to itself through the first component of a marked type
abbrev pub IsRound : List (Option NetworkNumbers) → List Bool → ℕ × ℕ → Type 0
IsRound xs marks r = (o : Option NetworkNumbers) × (slice_get xs r.0 ≡ Some o) × (first_marked_component marks o ≡ Some r.1) × LeadsBack xs r.0 o r.1

-- the same for marks that last
abbrev pub IsCircle : List (Option NetworkNumbers) → ℕ × ℕ → Type 0
IsCircle xs r = (marks : List Bool) × AreLasting xs marks × IsRound xs marks r

-- a circle, or a type that holds a marked one where no mark lasts
abbrev pub IsTooHighIn : List (Option NetworkNumbers) → List Bool → TooHighAt → Type 0
IsTooHighIn xs marks (Circle k i) = IsCircle xs (k, i)
IsTooHighIn xs marks (Height k i) = IsHolder xs marks (k, i) × NoneLasts xs

-- ---- Locations

-- the composite type, at the index, has an instance of the second, at the other index
pub record IsHeld (lib : Library) (k i : ℕ) (t u : CompositeType) : Type 0 where
  pub holder : slice_get lib.blocks k ≡ Some (block.Composite t)
  pub instance : Instance
  pub at_index : slice_get t.network.instances i ≡ Some instance
  pub of_type : type_named lib instance.block_type ≡ Some (Composite u)

-- some steps lead from the one to the other
abbrev pub Returns : Library → (u t : CompositeType) → Type 0
Returns lib u t = (n : ℕ) × Descends lib n u t

-- 15 steps lead down
abbrev pub GoesDeep : Library → CompositeType → Type 0
GoesDeep lib u = (v : CompositeType) × Descends lib 15 u v

-- No composite type of the declaration contains itself.
abbrev pub NoneReturns : Library → Type 0
NoneReturns lib = (k i : ℕ) (t u : CompositeType) → IsHeld lib k i t u → Returns lib u t → ⊥

-- Through the instance the composite type leads to itself, or 16 steps down where none leads to itself.
abbrev pub IsTooHighAt : Library → TooHighAt → Type 0
IsTooHighAt lib (Circle k i) = (t : CompositeType) × (u : CompositeType) × IsHeld lib k i t u × Returns lib u t
IsTooHighAt lib (Height k i) = (t : CompositeType) × (u : CompositeType) × IsHeld lib k i t u × GoesDeep lib u × NoneReturns lib

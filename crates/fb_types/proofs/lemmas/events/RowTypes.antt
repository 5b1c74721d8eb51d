-- The types of the variables of a row, by their indexes.
use Rattle.fb_types.proofs.Common.{◌≡◌, ◌<◌, ◌≤◌, ℕ, List, Option, None, Some, length, get_or, map, refl, sym, ap, ◌∙◌, option_map, slice_get, slice_get-get_or, slice_get-map, slice_get_past, type_at, Name, Variable, Ty}
use Rattle.std.specs.Borrow.{Bor}
use Rattle.fb_types.specs.EventRows.{variable_of}

type_in : (o : Option (Bor Name × Ty)) → option_map (λ (v : Variable). v.ty) (option_map variable_of o) ≡ option_map (λ (r : Bor Name × Ty). r.1) o
type_in None = refl
type_in (Some r) = refl

type_of : (rows : List (Bor Name × Ty)) (vs : List Variable) (i : ℕ) (o : Option (Bor Name × Ty)) → map variable_of rows ≡ vs → slice_get rows i ≡ o
    → option_map (λ (r : Bor Name × Ty). r.1) o ≡ type_at vs i
type_of rows vs i o are at =
    sym (ap (λ (vs : List Variable). type_at vs i) (sym are) ∙ ap (option_map (λ (v : Variable). v.ty)) (slice_get-map variable_of rows i ∙ ap (option_map variable_of) at) ∙ type_in o)

pub type_past : (rows : List (Bor Name × Ty)) (vs : List Variable) (i : ℕ) → map variable_of rows ≡ vs → length rows ≤ i → None ≡ type_at vs i
type_past rows vs i are past = type_of rows vs i None are (slice_get_past rows i past)

pub type_within : (rows : List (Bor Name × Ty)) (vs : List Variable) (i : ℕ) (r : Bor Name × Ty) → map variable_of rows ≡ vs → i < length rows → r ≡ get_or rows i r
    → Some r.1 ≡ type_at vs i
type_within rows vs i r are within at = type_of rows vs i (Some r) are (slice_get-get_or rows i r within ∙ ap (λ (r : Bor Name × Ty). Some r) (sym at))

-- Values of a document, and what contracts see of them.
use Rattle.fb_types.proofs.Common.{◌≡◌, List, [], ◌∷◌, map, Some, refl, ap, ◌∙◌, option_map}
use Rattle.toml.specs.Data.{Data, as_array}
use Rattle.toml.specs.View.{view, items_view}
use Rattle.toml.specs.declared.value.Value.{Value}
use Rattle.fb_expect.specs.Drafts.{list_of, values_of}

list_view : (vs : List Value) → map view vs ≡ list_of (items_view vs)
list_view [] = refl
list_view (v ∷ vs) = ap (λ (ds : List Data). view v ∷ ds) (list_view vs)

-- the items of an array
pub array_values : (d : Data) (vs : List Value) → Some (items_view vs) ≡ as_array d → Some (map view vs) ≡ values_of d
array_values d vs is = ap (λ (ds : List Data). Some ds) (list_view vs) ∙ ap (option_map list_of) is

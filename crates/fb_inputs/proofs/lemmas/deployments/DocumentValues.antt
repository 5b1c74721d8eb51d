-- Values of a document, and what contracts see of them.
use Rattle.fb_types.proofs.Common.{◌≡◌, ℕ, ◌+◌, ◌<◌, List, [], ◌∷◌, map, length, get_or, drop, Option, Some, None, refl, sym, ap, ◌∙◌, drop_more}
use Rattle.toml.specs.Data.{Data, as_array}
use Rattle.toml.specs.View.{view, items_view}
use Rattle.toml.specs.declared.value.Value.{Value}
use Rattle.fb_inputs.specs.declared.deploy_location.DeployKey.{DeployKey}
use Rattle.fb_inputs.specs.DeployLocations.{InTable, element_at, shape_in}
use Rattle.fb_inputs.specs.Lists.{each_at, each_in}
use Rattle.fb_inputs.specs.Documents.{array_of, list_of, pair, pair_of, tables_of}

pub next_view : (vs : List Value) (i : ℕ) (v : Value) → i < length vs → v ≡ get_or vs i v → map view (drop i vs) ≡ view v ∷ map view (drop (i + 1) vs)
next_view vs i v lt is = ap (map view) (drop_more vs i v lt) ∙ ap (λ (w : Value). view w ∷ map view (drop (i + 1) vs)) (sym is)

list_view : (vs : List Value) → list_of (items_view vs) ≡ map view vs
list_view [] = refl
list_view (v ∷ vs) = ap (λ (ds : List Data). view v ∷ ds) (list_view vs)

pub array_view : {A : Type 0} (k : DeployKey) (f : Data → Option A) (d : Data) (vs : List Value) → Some (items_view vs) ≡ as_array d → array_of k f d ≡ each_at (element_at k) f 0 (map view vs)
array_view k f d vs h = rw (← h, list_view vs) refl

pub tables_view : {A : Type 0} (k : DeployKey) (f : Data → InTable A) (d : Data) (vs : List Value) → Some (items_view vs) ≡ as_array d → tables_of k f d ≡ each_in (shape_in k) f 0 (map view vs)
tables_view k f d vs h = rw (← h, list_view vs) refl

not_two : (vs : List Value) → (length vs ≡ 2 → ⊥) → pair_of (map view vs) ≡ None
unfolding pair_of
not_two [] other = refl
not_two (a ∷ []) other = refl
not_two (a ∷ b ∷ []) other = absurd (other refl)
not_two (a ∷ b ∷ c ∷ vs) other = refl

pub no_pair : (d : Data) (vs : List Value) → Some (items_view vs) ≡ as_array d → (length vs ≡ 2 → ⊥) → None ≡ pair d
no_pair d vs h other = rw (← h, list_view vs, not_two vs other) refl

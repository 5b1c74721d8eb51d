-- Keys that a table may not have, in what the reader of TOML gives.
use Rattle.std.proofs.Common.{◌≡◌, ◌||◌, Bool, true, false, Bor, List, [], ◌∷◌, map, ℕ, Global, Option, Some, None, String, option_map, string_bytes, refl, ap, ◌∙◌}
use Rattle.std.specs.List.{list_any}
use Rattle.std.specs.Slice.{IsItemAt}
use Rattle.std.specs.Str.{bytes_eq}
use Rattle.toml.specs.Data.{get_item}
use Rattle.toml.specs.View.{items_view, members_view, view}
use Rattle.toml.specs.declared.value.Value.{Value}
use Rattle.toml.proofs.Views.{get_item_past, get_item_within}
use Rattle.fb_deploy_positions.specs.Values.{Text}
use Rattle.fb_why.specs.FurtherKeys.{first_further, is_among}

abbrev Entry : Type 0
Entry = String Global × Value

pub any_named : (known : List (Bor Text)) (name : Text) → list_any (λ (k : Bor Text). bytes_eq k.now name) known ≡ is_among (map (λ (k : Bor Text). k.now) known) name
any_named [] name = refl
any_named (k ∷ known) name = ap (λ (b : Bool). bytes_eq k.now name || b) (any_named known name)

-- a key that the table may have is passed
pub passed : (known : List Text) (entries rest : List Entry) (key : String Global) (value : Value) → entries ≡ (key, value) ∷ rest → is_among known (string_bytes key) ≡ true
    → first_further known (members_view entries) ≡ first_further known (members_view rest)
unfolding first_further
passed known entries rest key value is among = rw is (rw among refl)

-- another one is the first that it may not have
pub is_further : (known : List Text) (entries rest : List Entry) (key : String Global) (value : Value) → entries ≡ (key, value) ∷ rest → is_among known (string_bytes key) ≡ false
    → first_further known (members_view entries) ≡ Some (string_bytes key)
unfolding first_further
is_further known entries rest key value is other = rw is (rw other refl)

pub none_further : (known : List Text) (entries : List Entry) → entries ≡ [] → first_further known (members_view entries) ≡ None
unfolding first_further
none_further known entries is = rw is refl

-- an element of an array
pub element : (items : List Value) (index : ℕ) (r : Option (Bor Value)) → IsItemAt items index r → option_map (λ (v : Bor Value). view v.now) r ≡ get_item index (items_view items)
element items index None at = get_item_past items index at.3
element items index (Some v) at = ap (λ (x : Value). Some (view x)) at.1 ∙ get_item_within items index v.now at.3.0

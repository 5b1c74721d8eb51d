-- Names by their indexes (this project's profile).
use Rattle.std.specs.Prelude.{◌≡◌, ℕ, List, map, Option, position}
use Rattle.std.specs.BTreeMap.{BTreeMap, get_by}
use Rattle.std.specs.Borrow.{Bor}
use Rattle.fb_types.specs.Names.{Name, same_name}
use Rattle.fb_types.specs.NameOrder.{name_cmp}
use Rattle.fb_types.specs.Repeated.{Twice}
use Rattle.fb_check_names.specs.Repeats.{last_index}

-- names that are borrowed
abbrev pub names_in : List (Bor Name) → List Name
names_in ns = map (λ n. n.now) ns

-- what the map has for a name
abbrev pub index_in : BTreeMap (Bor Name) ℕ → Name → Option ℕ
index_in indexes n = get_by (λ k. name_cmp n k.now) indexes

-- The names differ, and the map gives the index of each.
pub record IsIndex (names : List Name) (indexes : BTreeMap (Bor Name) ℕ) : Type 0 where
  pub once : ¬ (Twice names)
  pub index : (n : Name) → index_in indexes n ≡ position (same_name n) names

-- the map has the last index of each name
abbrev pub AreLastIndexes : List Name → BTreeMap (Bor Name) ℕ → Type 0
AreLastIndexes ns m = (n : Name) → index_in m n ≡ last_index (same_name n) ns

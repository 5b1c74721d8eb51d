-- Which of several names is nearest to another one (this project's own).
use Rattle.std.specs.Prelude.{◌≡◌, ◌<◌, ◌≤◌, ℕ, List, [], Option, Some, None, length, map, nat_eq, option_map, slice_get, unwrap_or}
use Rattle.clap.specs.Words.{Text}
use Rattle.strsim.specs.Edits.{levenshtein_row}
use Rattle.fb_types.specs.Flat.{type_name}
use Rattle.fb_types.specs.Headline.{Inputs}
use Rattle.fb_types.specs.Names.{Name}
use Rattle.fb_types.specs.OfSystem.{instance_count, path_at}
use Rattle.fb_types.specs.Text.{path_text}
use Rattle.fb_types.specs.declared.library.Library.{Library}
use Rattle.fbsim_command.specs.declared.near.Candidate.{Candidate}

-- the least count of bytes to add, to drop or to change that makes one text of the other
abbrev pub distance : (from to : Text) → ℕ
distance from to = levenshtein_row nat_eq from to (length to)

-- Of the numbers below another one, this is the first for which a function is least.
pub record IsLeastAt (f : ℕ → ℕ) (n i : ℕ) : Type 0 where
  pub within : i < n
  pub least : (j : ℕ) → j < n → f i ≤ f j
  pub first : (j : ℕ) → j < i → f i < f j

-- the same, if there are numbers below it
abbrev pub IsLeastOf : (f : ℕ → ℕ) → (n : ℕ) → Option ℕ → Type 0
IsLeastOf f n None = n ≡ 0
IsLeastOf f n (Some i) = IsLeastAt f n i

-- a candidate is the first of the nearest so far, if there were some
abbrev pub IsBest : (f : ℕ → ℕ) → (n : ℕ) → Option Candidate → Type 0
IsBest f n None = n ≡ 0
IsBest f n (Some c) = IsLeastAt f n c.index × (c.far ≡ f c.index)

-- how far the path of an instance is from a text
abbrev pub path_distance : Inputs → Text → (instance : ℕ) → ℕ
path_distance i text k = distance (path_text (path_at i k)) text

-- the first of the nearest paths, if there are instances
abbrev pub IsNearestPath : Inputs → Text → (near : Option Text) → Type 0
IsNearestPath i text near = (k : Option ℕ) × IsLeastOf (path_distance i text) (instance_count i) k × (near ≡ option_map (λ n. path_text (path_at i n)) k)

-- the name of the block type at an index, and how far it is from a text
abbrev pub type_at : Library → ℕ → Name
type_at lib k = unwrap_or (slice_get (map type_name lib.blocks) k) []

abbrev pub type_distance : Library → Text → ℕ → ℕ
type_distance lib text k = distance (type_at lib k) text

-- the first of the nearest block types, if there are some
abbrev pub IsNearestType : Library → Text → (near : Option Name) → Type 0
IsNearestType lib text near = (k : Option ℕ) × IsLeastOf (type_distance lib text) (length lib.blocks) k × (near ≡ option_map (type_at lib) k)

-- one of some names, and how far it is from a text
abbrev pub name_at : List Name → ℕ → Name
name_at names k = unwrap_or (slice_get names k) []

abbrev pub name_distance : List Name → Text → ℕ → ℕ
name_distance names text k = distance (name_at names k) text

-- the first of the nearest of some names, if there are some
abbrev pub IsNearestName : List Name → Text → (near : Option Name) → Type 0
IsNearestName names text near = (k : Option ℕ) × IsLeastOf (name_distance names text) (length names) k × (near ≡ option_map (name_at names) k)

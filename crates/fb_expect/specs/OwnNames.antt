-- Rules that have names of their own (docs/FORMATS.md, "Rules over traces"; this project's own).
use Rattle.std.specs.Prelude.{◌≡◌, ℕ, ◌<◌, Bool, true, false, not, List, [], length, map, take, slice_index_or}
use Rattle.std.specs.List.{list_all, list_any, range_with_len}
use Rattle.std.specs.Str.{bytes_eq}
use Rattle.fb_expect.specs.Drafts.{RuleText}
use Rattle.fb_expect.specs.Words.{Text}

-- whether one of these rules has a name
abbrev pub has_name : Text → List RuleText → Bool
has_name name ts = list_any (λ t. bytes_eq t.name name) ts

-- the name of the rule at an index
abbrev pub name_at : List RuleText → ℕ → Text
name_at ts i = slice_index_or (map (λ t. t.name) ts) i []

-- whether no rule before it has its name
abbrev pub is_first_at : List RuleText → ℕ → Bool
is_first_at ts i = not (has_name (name_at ts i) (take i ts))

-- Whether each rule has a name of its own.
abbrev pub have_own_names : List RuleText → Bool
have_own_names ts = list_all (is_first_at ts) (range_with_len 0 (length ts))

-- The rule at an index is the first with the name of a rule before it.
pub record IsSecond (ts : List RuleText) (i : ℕ) : Type 0 where
  pub within : i < length ts
  pub second : is_first_at ts i ≡ false
  pub before : list_all (is_first_at ts) (range_with_len 0 i) ≡ true

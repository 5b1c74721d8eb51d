-- What the tree of a document says of rules, before their patterns and numbers are judged (docs/FORMATS.md, "Rules over traces"; this project's own).
use Rattle.std.specs.Prelude.{ℕ, ◌+◌, ℤ, Bool, true, false, not, ◌&&◌, ◌==◌, if◌then◌else◌, List, [], ◌∷◌, length, map, Option, Some, None, is_some, option_map, unwrap_or, codes}
use Rattle.std.specs.List.{list_all}
use Rattle.toml.specs.Data.{Data, Items, no_items, item, Members, no_members, member, get_member, as_bool, as_str, as_integer, as_array, as_table}
use Rattle.toml.specs.View.{view}
use Rattle.fb_expect.specs.Lists.{◌>>=◌, each, may}
use Rattle.fb_expect.specs.Words.{Text}
use Rattle.fb_expect.specs.declared.document.Draft.{Draft}
use Rattle.fb_expect.specs.declared.document.NeedDraft.{NeedDraft}
use Rattle.fb_expect.specs.declared.document.NeedDraft.TheVariants.{See, Not, Before, Never, Count}

-- A rule as it is written.
pub record RuleText : Type 0 where
  pub name : Text
  pub need : NeedDraft
  pub first : Text
  pub second : Option Text
  pub third : Option Text
  pub same : Option (List Text)
  pub turns : Option Bool

-- the text that a value is, and none for another value
abbrev pub text_in : Data → Text
text_in d = unwrap_or (as_str d) []

abbrev pub texts_in : List Data → List Text
texts_in ds = map text_in ds

abbrev pub text_of : Draft → RuleText
text_of d =
    record {
      name = d.name.now;
      need = d.need;
      first = d.first.now;
      second = option_map (λ t. t.now) d.second;
      third = option_map (λ t. t.now) d.third;
      same = option_map (λ vs. texts_in (map view vs.now)) d.same;
      turns = d.turns;
    }

-- the items of an array
abbrev pub list_of : Items → List Data
list_of no_items = []
list_of (item d ds) = d ∷ list_of ds

-- how many keys a table has
abbrev pub count_of : Members → ℕ
count_of no_members = 0
count_of (member k d ms) = count_of ms + 1

abbrev pub text_at : Text → Members → Option Text
text_at key keys = get_member key keys >>= as_str

abbrev pub number_at : Text → Members → Option ℤ
number_at key keys = get_member key keys >>= as_integer

-- how many of these are there
abbrev pub one_if : Bool → ℕ
one_if here = if here then 1 else 0

-- ---- The five forms

abbrev pub are_texts : List Data → Bool
are_texts ds = list_all (λ d. is_some (as_str d)) ds

-- the items of a value that is an array of texts, one or more
abbrev pub text_values : Data → Option (List Data)
text_values d = option_map list_of (as_array d) >>= λ ds. if are_texts ds && not (length ds == 0) then Some ds else None

unfoldable pub after_see : Members → (name first : Text) → (within : ℤ) → (second : Text) → Option RuleText
after_see keys name first within second = do
  same ← may text_values (get_member (codes "same") keys)
  turns ← may as_bool (get_member (codes "each") keys)
  if count_of keys == 4 + one_if (is_some same) + one_if (is_some turns)
      then Some (record { name = name; need = See within; first = first; second = Some second; third = None; same = option_map texts_in same; turns = turns })
      else None

unfoldable pub after_not : Members → (name first : Text) → (within : ℤ) → Option RuleText
after_not keys name first within = do
  second ← text_at (codes "not") keys
  if count_of keys == 4
      then Some (record { name = name; need = Not within; first = first; second = Some second; third = None; same = None; turns = None })
      else None

-- with `see`, or else with `not`
abbrev pub after_by : Option Data → Members → (name first : Text) → (within : ℤ) → Option RuleText
after_by (Some d) keys name first within = as_str d >>= λ second. after_see keys name first within second
after_by None keys name first within = after_not keys name first within

unfoldable pub after : Members → (name first : Text) → Option RuleText
after keys name first = number_at (codes "within") keys >>= λ within. after_by (get_member (codes "see") keys) keys name first within

unfoldable pub before : Members → (name first : Text) → Option RuleText
before keys name first = do
  within ← number_at (codes "within") keys
  second ← text_at (codes "see") keys
  if count_of keys == 4 then Some (record { name = name; need = Before within; first = first; second = Some second; third = None; same = None; turns = None }) else None

unfoldable pub never : Members → (name first : Text) → Option RuleText
never keys name first = do
  second ← may as_str (get_member (codes "from") keys)
  third ← may as_str (get_member (codes "to") keys)
  if count_of keys == 2 + one_if (is_some second) + one_if (is_some third)
      then Some (record { name = name; need = Never (not (is_some second)); first = first; second = second; third = third; same = None; turns = None })
      else None

unfoldable pub count : Members → (name first : Text) → Option RuleText
count keys name first = do
  least ← may as_integer (get_member (codes "least") keys)
  most ← may as_integer (get_member (codes "most") keys)
  every ← may as_integer (get_member (codes "every") keys)
  if not (one_if (is_some least) + one_if (is_some most) == 0)
      && (count_of keys == 2 + (one_if (is_some least) + one_if (is_some most)) + one_if (is_some every))
      then Some (record { name = name; need = Count least most every; first = first; second = None; third = None; same = None; turns = None })
      else None

-- ---- Rules

-- what the value at a key gives, or else another thing
abbrev pub by_key : {A : Type 0} → Option Data → (Text → Option A) → Option A → Option A
by_key (Some d) f other = as_str d >>= f
by_key None f other = other

-- the rule of a table, by the first of these keys that it has
unfoldable pub form_of : Members → (name : Text) → Option RuleText
form_of keys name =
    by_key (get_member (codes "after") keys) (after keys name)
    (by_key (get_member (codes "before") keys) (before keys name)
    (by_key (get_member (codes "never") keys) (never keys name) (text_at (codes "count") keys >>= count keys name)))

unfoldable pub rule_text : Data → Option RuleText
rule_text d = do
  keys ← as_table d
  name ← text_at (codes "name") keys
  form_of keys name

-- the items of a value that is an array
abbrev pub values_of : Data → Option (List Data)
values_of d = option_map list_of (as_array d)

-- `[[rule]]`, one or more, and no other key
unfoldable pub rules_in : Members → Option (List Data)
rules_in keys = do
  d ← get_member (codes "rule") keys
  ds ← values_of d
  if (count_of keys == 1) && not (length ds == 0) then Some ds else None

-- The rules of a document as they are written, if its shape is right.
unfoldable pub texts_of : Members → Option (List RuleText)
texts_of keys = rules_in keys >>= each rule_text

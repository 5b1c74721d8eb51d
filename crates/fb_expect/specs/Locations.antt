-- Where rules are refused (E40 to E44), with `--why`: the location, and what is wrong there (docs/FORMATS.md; this project's own).
use Rattle.std.specs.Prelude.{◌≡◌, ◌⊎◌, ◌≤◌, ℕ, Bool, true, false, not, if◌then◌else◌, nat_le, nat_lt, ℤ, List, length, take, Option, Some, None, Ok, Err, is_some, slice_get, codes}
use Rattle.std.specs.List.{list_all}
use Rattle.toml.specs.Data.{Data, Members, get_member, as_bool, as_str, as_integer, as_table}
use Rattle.fb_expect.specs.Drafts.{RuleText, rule_text, rules_in, text_values, texts_of}
use Rattle.fb_expect.specs.Lists.{each, may}
use Rattle.fb_expect.specs.Needs.{has_patterns, names_of, need_of, rule_of, within}
use Rattle.fb_expect.specs.OwnNames.{IsSecond, have_own_names}
use Rattle.fb_expect.specs.Reading.{accepted, document, most_bytes, most_rules}
use Rattle.fb_expect.specs.Refusals.{Outcome, ◌>>=◌, or_refuse, over_limit, no_document, bad_shape, bad_pattern, bad_number}
use Rattle.fb_expect.specs.Words.{Text}
use Rattle.fb_expect.specs.Written.{pattern_of}
use Rattle.fb_expect.specs.declared.document.NeedDraft.{NeedDraft}
use Rattle.fb_expect.specs.declared.document.NeedDraft.TheVariants as draft
use Rattle.fb_expect.specs.declared.location.RuleKey.{RuleKey}
use Rattle.fb_expect.specs.declared.location.RuleKey.TheVariants as key
use Rattle.fb_expect.specs.declared.location.RuleFault.{RuleFault}
use Rattle.fb_expect.specs.declared.location.RuleFault.TheVariants as fault
use Rattle.fb_expect.specs.declared.location.RulesLocation.{RulesLocation}
use Rattle.fb_expect.specs.declared.location.RulesLocation.TheVariants as location
use Rattle.fb_expect.specs.declared.rule.Need.{Need}
use Rattle.fb_expect.specs.declared.rule.Need.TheVariants as need
use Rattle.fb_expect.specs.declared.rule.Rule.{Rule}

-- ---- Keys

abbrev pub name_of : RuleKey → Text
name_of key.Name = codes "name"
name_of key.After = codes "after"
name_of key.Before = codes "before"
name_of key.Never = codes "never"
name_of key.Count = codes "count"
name_of key.See = codes "see"
name_of key.Not = codes "not"
name_of key.Within = codes "within"
name_of key.From = codes "from"
name_of key.To = codes "to"
name_of key.Least = codes "least"
name_of key.Most = codes "most"
name_of key.Every = codes "every"
name_of key.Same = codes "same"
name_of key.Each = codes "each"

abbrev pub value_at : Members → RuleKey → Option Data
value_at keys k = get_member (name_of k) keys

-- whether a value is of the kind of the key: a whole number, a list of texts, a truth value, or a text
abbrev pub is_of_kind : RuleKey → Data → Bool
is_of_kind key.Within d = is_some (as_integer d)
is_of_kind key.Least d = is_some (as_integer d)
is_of_kind key.Most d = is_some (as_integer d)
is_of_kind key.Every d = is_some (as_integer d)
is_of_kind key.Same d = is_some (text_values d)
is_of_kind key.Each d = is_some (as_bool d)
is_of_kind _ d = is_some (as_str d)

-- ---- Shapes (E42)

-- the first of the keys of the forms that a table has
abbrev pub form_at : Members → Option RuleKey
form_at keys =
    if is_some (value_at keys key.After) then Some key.After
    else (if is_some (value_at keys key.Before) then Some key.Before
    else (if is_some (value_at keys key.Never) then Some key.Never
    else (if is_some (value_at keys key.Count) then Some key.Count else None)))

-- The value at a key is not of its kind.
pub record IsWrong (keys : Members) (k : RuleKey) : Type 0 where
  pub value : Data
  pub there : value_at keys k ≡ Some value
  pub wrong : is_of_kind k value ≡ false

-- This is wrong with a table. What is said of further keys is only tested.
abbrev pub IsFault : Members → RuleFault → Type 0
IsFault keys fault.NoTable = ⊥
IsFault keys fault.NoForm = form_at keys ≡ None
IsFault keys (fault.Missing k) = value_at keys k ≡ None
IsFault keys (fault.Wrong k) = IsWrong keys k
IsFault keys fault.Further = Unit {0}

-- This is wrong with the value of a rule.
abbrev pub IsFaultOf : Data → RuleFault → Type 0
IsFaultOf d fault.NoTable = as_table d ≡ None
IsFaultOf d f = (keys : Members) × (as_table d ≡ Some keys) × IsFault keys f

-- The shape of a rule is wrong, and this is the matter with it.
abbrev pub IsRuleFault : Data → RuleFault → Type 0
IsRuleFault d f = (rule_text d ≡ None) × IsFaultOf d f

-- ---- Patterns (E43) and numbers (E44)

abbrev pub first_key : NeedDraft → RuleKey
first_key (draft.See n) = key.After
first_key (draft.Not n) = key.After
first_key (draft.Before n) = key.Before
first_key (draft.Never from_start) = key.Never
first_key (draft.Count least most every) = key.Count

abbrev pub second_key : NeedDraft → RuleKey
second_key (draft.See n) = key.See
second_key (draft.Not n) = key.Not
second_key (draft.Before n) = key.See
second_key (draft.Never from_start) = key.From
second_key (draft.Count least most every) = key.From

-- the keys of the first and of the second pattern of a rule
abbrev pub pattern_keys : Need → RuleKey × RuleKey
pattern_keys (need.See n) = (key.After, key.See)
pattern_keys (need.Not n) = (key.After, key.Not)
pattern_keys (need.Before n) = (key.Before, key.See)
pattern_keys (need.Never from_start) = (key.Never, key.From)
pattern_keys (need.Count least most every) = (key.Count, key.From)

-- whether a text is there that is no pattern
abbrev pub is_bad : Option Text → Bool
is_bad None = false
is_bad (Some t) = not (is_some (pattern_of t))

-- The text at the key is no pattern, or one at `same` is no name.
abbrev pub IsPatternFault : RuleText → RuleKey → Type 0
IsPatternFault t k =
    ((k ≡ first_key t.need) × (is_bad (Some t.first) ≡ true)) ⊎ (((k ≡ second_key t.need) × (is_bad t.second ≡ true)) ⊎ (((k ≡ key.To) × (is_bad t.third ≡ true)) ⊎ ((k ≡ key.Same) × (names_of t.same ≡ None))))

-- the least and the length of a window are in their ranges
abbrev pub AreCountable : (least every : Option ℤ) → Type 0
AreCountable least every = (is_some (may (within 0) least) ≡ true) × (is_some (may (within 1) every) ≡ true)

-- The number at the key of a rule that counts is the first out of its range. Or else it is the least without a most, which is 0, or the
-- most, which may be under the least.
abbrev pub IsCountKey : (least most every : Option ℤ) → RuleKey → Type 0
IsCountKey least most every key.Least = (may (within 0) least ≡ None) ⊎ (AreCountable least every × (most ≡ None))
IsCountKey least most every key.Every = (is_some (may (within 0) least) ≡ true) × (may (within 1) every ≡ None)
IsCountKey least most every key.Most = AreCountable least every × (is_some most ≡ true)
IsCountKey least most every _ = ⊥

-- The number at the key is out of its range.
abbrev pub IsNumberKey : NeedDraft → RuleKey → Type 0
IsNumberKey (draft.Count least most every) k = IsCountKey least most every k
IsNumberKey (draft.See n) k = k ≡ key.Within
IsNumberKey (draft.Not n) k = k ≡ key.Within
IsNumberKey (draft.Before n) k = k ≡ key.Within
IsNumberKey (draft.Never from_start) k = Unit {0}

-- A number of the rule is out of its range, and it is the one at this key.
pub record IsNumberFault (t : RuleText) (k : RuleKey) : Type 0 where
  pub out : need_of t.need ≡ None
  pub at : IsNumberKey t.need k

-- ---- Places

abbrev pub has_shape : Data → Bool
has_shape d = is_some (rule_text d)

-- The shape of the value at an index is wrong, and of none before it.
pub record IsRuleAt (ds : List Data) (i : ℕ) (f : RuleFault) : Type 0 where
  pub value : Data
  pub there : slice_get ds i ≡ Some value
  pub so : IsRuleFault value f
  pub before : list_all has_shape (take i ds) ≡ true

abbrev pub IsAmongValues : List Data → RulesLocation → Type 0
IsAmongValues ds (location.Rule i f) = IsRuleAt ds i f
IsAmongValues ds _ = ⊥

-- A text of the rule at an index is no pattern, and all before it have theirs.
pub record IsPatternAt (ts : List RuleText) (i : ℕ) (k : RuleKey) : Type 0 where
  pub rule : RuleText
  pub there : slice_get ts i ≡ Some rule
  pub so : IsPatternFault rule k
  pub before : list_all has_patterns (take i ts) ≡ true

abbrev pub has_numbers : RuleText → Bool
has_numbers t = is_some (need_of t.need)

-- A number of the rule at an index is out of its range, and none of those before it.
pub record IsNumberAt (ts : List RuleText) (i : ℕ) (k : RuleKey) : Type 0 where
  pub rule : RuleText
  pub there : slice_get ts i ≡ Some rule
  pub so : IsNumberFault rule k
  pub before : list_all has_numbers (take i ts) ≡ true

abbrev pub IsAmongTexts : List RuleText → RulesLocation → Type 0
IsAmongTexts ts (location.Pattern i k) = IsPatternAt ts i k
IsAmongTexts ts (location.Number i k) = IsNumberAt ts i k
IsAmongTexts ts location.Crowded = nat_lt most_rules (length ts) ≡ true
IsAmongTexts ts (location.Repeated i) = IsSecond ts i
IsAmongTexts ts _ = ⊥

-- This is wrong with a document.
abbrev pub IsDocumentFault : Members → RulesLocation → Type 0
IsDocumentFault keys location.List = rules_in keys ≡ None
IsDocumentFault keys (location.Rule i f) = (ds : List Data) × (rules_in keys ≡ Some ds) × IsRuleAt ds i f
IsDocumentFault keys p = (ts : List RuleText) × (texts_of keys ≡ Some ts) × IsAmongTexts ts p

-- This is wrong with bytes.
abbrev pub IsLocation : Text → RulesLocation → Type 0
IsLocation bytes location.Bytes = nat_le (length bytes) most_bytes ≡ false
IsLocation bytes (location.Document at) = (document bytes ≡ None) × (at ≤ length bytes)
IsLocation bytes p = (keys : Members) × (document bytes ≡ Some keys) × IsDocumentFault keys p

-- the number of the refusal
abbrev pub number_at : RulesLocation → ℕ
number_at location.Bytes = over_limit
number_at location.Crowded = over_limit
number_at (location.Document at) = no_document
number_at location.List = bad_shape
number_at (location.Repeated i) = bad_shape
number_at (location.Rule i f) = bad_shape
number_at (location.Pattern i k) = bad_pattern
number_at (location.Number i k) = bad_number

-- the number of a refusal, if it is one
abbrev pub refusal_of : {A : Type 0} → Outcome A → Option ℕ
refusal_of (Ok x) = None
refusal_of (Err n) = Some n

-- what comes of rules whose texts are patterns
abbrev pub numbers_judged : List RuleText → Outcome (List Rule)
numbers_judged ts = or_refuse bad_number (each rule_of ts) >>= accepted (have_own_names ts)

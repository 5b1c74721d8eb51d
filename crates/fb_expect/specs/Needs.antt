-- Rules with their numbers and patterns judged one by one (docs/FORMATS.md, "Rules over traces"; this project's own).
use Rattle.std.specs.Prelude.{ℕ, ◌^◌, ℤ, pos, negsuc, Bool, true, false, not, ◌&&◌, ◌==◌, if◌then◌else◌, nat_le, List, [], ◌++◌, map, Option, Some, None, is_some, option_map, unwrap_or}
use Rattle.fb_types.specs.Names.{Name}
use Rattle.fb_expect.specs.Drafts.{RuleText}
use Rattle.fb_expect.specs.Lists.{◌>>=◌, each, may}
use Rattle.fb_expect.specs.Words.{Text, is_name}
use Rattle.fb_expect.specs.Written.{pattern_of, upper}
use Rattle.fb_expect.specs.declared.document.NeedDraft.{NeedDraft}
use Rattle.fb_expect.specs.declared.document.NeedDraft.TheVariants as draft
use Rattle.fb_expect.specs.declared.pattern.Comparison.TheVariants.{Equal}
use Rattle.fb_expect.specs.declared.pattern.Condition.{Condition}
use Rattle.fb_expect.specs.declared.pattern.Operand.TheVariants.{Variable}
use Rattle.fb_expect.specs.declared.pattern.Pattern.{Pattern}
use Rattle.fb_expect.specs.declared.rule.Need.{Need}
use Rattle.fb_expect.specs.declared.rule.Need.TheVariants as need
use Rattle.fb_expect.specs.declared.rule.Pairing.{Pairing}
use Rattle.fb_expect.specs.declared.rule.Rule.{Rule}

-- a number from `least` to the latest tick
abbrev pub within : (least : ℕ) → ℤ → Option ℕ
within least (pos n) = if nat_le least n && nat_le n (10 ^ 12) then Some n else None
within least (negsuc n) = None

-- the least is not over the most, and without a most it is not 0, which asks for nothing
abbrev pub is_asked : (least : ℕ) → (most : Option ℕ) → Bool
is_asked least None = not (least == 0)
is_asked least (Some most) = nat_le least most

abbrev pub count_need : (least : ℕ) → (most every : Option ℕ) → Option Need
count_need least most every = if is_asked least most then Some (need.Count least most every) else None

unfoldable pub count_of : (least most every : Option ℤ) → Option Need
count_of least most every = do
  l ← may (within 0) least
  m ← may (within 0) most
  e ← may (within 1) every
  count_need (unwrap_or l 0) m e

-- what a rule asks for, if its numbers are in range
unfoldable pub need_of : NeedDraft → Option Need
need_of (draft.See n) = within 0 n >>= λ k. Some (need.See k)
need_of (draft.Not n) = within 0 n >>= λ k. Some (need.Not k)
need_of (draft.Before n) = within 0 n >>= λ k. Some (need.Before k)
need_of (draft.Never from_start) = Some (need.Never from_start)
need_of (draft.Count least most every) = count_of least most every

-- ---- Pairs

-- the name that a text is, in any letter case
abbrev pub name_of : Text → Option Name
name_of z = let u = map upper z in if is_name u then Some u else None

abbrev pub names_of : Option (List Text) → Option (Option (List Name))
names_of texts = may (each name_of) texts

-- how a rule pairs lines: by equal values, by turns, or both, or not at all
abbrev pub pairing_by : Option (List Name) → (is_each : Bool) → Option Pairing
pairing_by (Some names) is_each = Some (record { same = names; is_each = is_each })
pairing_by None true = Some (record { same = []; is_each = true })
pairing_by None false = None

unfoldable pub pairing_of : RuleText → Option (Option Pairing)
pairing_of t = names_of t.same >>= λ names. Some (pairing_by names (unwrap_or t.turns false))

-- the condition that a line has a variable: its value is equal to itself
abbrev pub has_name : Name → Condition
has_name n = record { variable = n; comparison = Equal; operand = Variable n }

abbrev pub names_in : Option Pairing → List Name
names_in None = []
names_in (Some p) = p.same

-- A line without one of these variables does not meet the pattern either.
abbrev pub with_names : List Name → Pattern → Pattern
with_names names p = record p { conditions = p.conditions ++ map has_name names }

-- ---- Rules

-- whether all texts of a rule that must be patterns are patterns, and those of `same` names
unfoldable pub has_patterns : RuleText → Bool
has_patterns t =
    is_some (pattern_of t.first) && (is_some (may pattern_of t.second) && (is_some (may pattern_of t.third) && is_some (names_of t.same)))

-- the rule, if its numbers are in range and its texts are patterns
unfoldable pub rule_of : RuleText → Option Rule
rule_of t = do
  n ← need_of t.need
  first ← pattern_of t.first
  second ← may pattern_of t.second
  third ← may pattern_of t.third
  pairing ← pairing_of t
  Some (record {
    name = t.name;
    need = n;
    first = with_names (names_in pairing) first;
    second = option_map (with_names (names_in pairing)) second;
    third = third;
    pairing = pairing;
  })

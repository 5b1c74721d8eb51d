-- Rules, from the tree that the TOML reader returns for their bytes (docs/FORMATS.md, "Rules over traces"; this project's own).
use Rattle.std.specs.Prelude.{ℕ, Bool, if◌then◌else◌, nat_le, List, length, Option, None, Ok, Err}
use Rattle.std.specs.List.{list_all}
use Rattle.std.specs.Str.{is_utf8}
use Rattle.toml.specs.Data.{Members}
use Rattle.toml.specs.Parse.{parse_document}
use Rattle.fb_expect.specs.Drafts.{RuleText, texts_of}
use Rattle.fb_expect.specs.Lists.{each}
use Rattle.fb_expect.specs.Needs.{has_patterns, rule_of}
use Rattle.fb_expect.specs.OwnNames.{have_own_names}
use Rattle.fb_expect.specs.Refusals.{Outcome, ◌>>=◌, or_refuse, no_document, bad_shape, bad_pattern, bad_number, over_limit}
use Rattle.fb_expect.specs.Words.{Text}
use Rattle.fb_expect.specs.declared.rule.Rule.{Rule}

-- the most bytes, and the most rules
abbrev pub most_bytes : ℕ
most_bytes = 1048576

abbrev pub most_rules : ℕ
most_rules = 1000

abbrev pub limited : List Rule → Outcome (List Rule)
limited rules = if nat_le (length rules) most_rules then Ok rules else Err over_limit

abbrev pub if_named : (own_names : Bool) → List Rule → Outcome (List Rule)
if_named own_names rules = if own_names then Ok rules else Err bad_shape

-- what comes of rules that can be read: how many they are is judged, and then their names
abbrev pub accepted : (own_names : Bool) → List Rule → Outcome (List Rule)
accepted own_names rules = limited rules >>= if_named own_names

-- All patterns are judged first, then all numbers, then how many rules there are, and whether each has a name of its own.
unfoldable pub rules_of_drafts : List RuleText → Outcome (List Rule)
rules_of_drafts ts =
    if list_all has_patterns ts
    then (or_refuse bad_number (each rule_of ts) >>= accepted (have_own_names ts))
    else Err bad_pattern

-- the document that bytes are
unfoldable pub document : Text → Option Members
document bytes = if is_utf8 bytes then parse_document bytes else None

abbrev pub of_document : Members → Outcome (List Rule)
of_document keys = or_refuse bad_shape (texts_of keys) >>= rules_of_drafts

-- The rules that bytes of TOML give, or the number of the refusal.
unfoldable pub rules_of : Text → Outcome (List Rule)
rules_of bytes = if nat_le (length bytes) most_bytes then (or_refuse no_document (document bytes) >>= of_document) else Err over_limit

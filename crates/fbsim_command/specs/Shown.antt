-- The names of files, as reports show them (docs/FORMATS.md, "What to look at"; this project's own).
use Rattle.std.specs.Prelude.{ℕ, List, map, if◌then◌else◌}
use Rattle.std.specs.Char.{is_control}
use Rattle.std.specs.Str.{chars, encode_utf8_all}

-- a character of a name: a control character is shown as a question mark
abbrev pub shown_char : ℕ → ℕ
shown_char c = if is_control c then 63 else c

-- a name on one line
abbrev pub shown_name : List ℕ → List ℕ
shown_name name = encode_utf8_all (map shown_char (chars name))

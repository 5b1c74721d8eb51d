-- The line for an option that names something that there is not (docs/FORMATS.md, "Program"; this project's own).
use Rattle.std.specs.Prelude.{◌&&◌, ◌==◌, ℕ, Bool, false, [], ◌++◌, map, Option, Some, None, Ok, Err, codes, if◌then◌else◌, nat_lt}
use Rattle.std.specs.Str.{encode_utf8_all}
use Rattle.clap.specs.Words.{Text}
use Rattle.fb_types.specs.Names.{Name}
use Rattle.fbsim_command.specs.Outcomes.{End}
use Rattle.fbsim_command.specs.Shown.{shown_name}
use Rattle.fbsim_command.specs.declared.failure.Failure.TheVariants.{Refused}
use Rattle.fbsim_command.specs.declared.failure.RefusalLine.TheVariants.{Numbered}

-- a call ends because a name is unknown
abbrev pub is_unknown : End → Bool
is_unknown (Err (Refused (Numbered n))) = n == 21
is_unknown _ = false

-- a byte of a name: one that is no printable ASCII character is shown as a question mark
abbrev pub shown_byte : ℕ → ℕ
shown_byte byte = if nat_lt 31 byte && nat_lt byte 127 then byte else 63

abbrev pub shown_bytes : Name → Text
shown_bytes name = encode_utf8_all (map shown_byte name)

-- what is said of the nearest name, if there is one
abbrev pub nearest_words : Option Name → Text
nearest_words None = []
nearest_words (Some name) = codes " (the nearest name is " ++ (shown_bytes name ++ codes ")")

-- the line for an option of this name: nothing of a kind has the name that it gives, and this is the nearest name
abbrev pub unknown_line : (option kind name : Text) → (near : Option Name) → Text
unknown_line option kind name near = codes "--" ++ (option ++ (codes ": E21: there is no " ++ (kind ++ (codes " " ++ (shown_name name ++ nearest_words near)))))

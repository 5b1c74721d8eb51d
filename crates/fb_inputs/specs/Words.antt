-- Names and keywords (IEC 61499-1, Annex B, and IEC 61131-3, 6.1, in manner; letter case is this project's
-- profile: it is nowhere significant, and names are kept in upper case).
use Rattle.std.specs.Prelude.{ℕ, ◌+◌, Bool, false, not, ◌&&◌, ◌||◌, if◌then◌else◌, nat_eq, List, [], ◌∷◌, take, drop, position, Option, Some, None, option_map, codes}
use Rattle.std.specs.List.{list_all}
use Rattle.std.specs.Str.{bytes_eq}
pub use Rattle.fb_read.specs.Words.{is_letter, is_word, upper, in_upper}

abbrev pub Text : Type 0
Text = List ℕ

-- a letter, and letters, digits and underscores after it
abbrev pub is_identifier : Text → Bool
is_identifier [] = false
is_identifier (b ∷ z) = is_letter b && list_all is_word z

-- whether the word is one of these
abbrev pub is_among : List Text → Text → Bool
is_among [] word = false
is_among (w ∷ ws) word = bytes_eq word w || is_among ws word

-- of declarations and networks
abbrev pub block_words : List Text
block_words =
    codes "FUNCTION_BLOCK" ∷ codes "END_FUNCTION_BLOCK" ∷ codes "APPLICATION" ∷ codes "END_APPLICATION"
    ∷ codes "EVENT_INPUT" ∷ codes "EVENT_OUTPUT" ∷ codes "END_EVENT" ∷ codes "WITH"
    ∷ codes "VAR_INPUT" ∷ codes "VAR_OUTPUT" ∷ codes "VAR" ∷ codes "END_VAR" ∷ codes "FBS" ∷ codes "END_FBS" ∷ []

-- of connections and charts
abbrev pub section_words : List Text
section_words =
    codes "EVENT_CONNECTIONS" ∷ codes "DATA_CONNECTIONS" ∷ codes "END_CONNECTIONS" ∷ codes "EC_STATES"
    ∷ codes "END_STATES" ∷ codes "EC_TRANSITIONS" ∷ codes "END_TRANSITIONS" ∷ codes "ALGORITHM"
    ∷ codes "END_ALGORITHM" ∷ codes "TO" ∷ []

-- of types and constants
abbrev pub type_words : List Text
type_words =
    codes "BOOL" ∷ codes "SINT" ∷ codes "INT" ∷ codes "DINT" ∷ codes "LINT" ∷ codes "USINT" ∷ codes "UINT"
    ∷ codes "UDINT" ∷ codes "ULINT" ∷ codes "TIME" ∷ codes "TRUE" ∷ codes "FALSE" ∷ []

-- of statements
abbrev pub statement_words : List Text
statement_words =
    codes "IF" ∷ codes "THEN" ∷ codes "ELSIF" ∷ codes "ELSE" ∷ codes "END_IF" ∷ codes "CASE" ∷ codes "OF"
    ∷ codes "END_CASE" ∷ codes "FOR" ∷ codes "BY" ∷ codes "DO" ∷ codes "END_FOR" ∷ []

-- of loops and jumps
abbrev pub loop_words : List Text
loop_words =
    codes "WHILE" ∷ codes "END_WHILE" ∷ codes "REPEAT" ∷ codes "UNTIL" ∷ codes "END_REPEAT" ∷ codes "EXIT"
    ∷ codes "RETURN" ∷ []

-- of operators
abbrev pub operator_words : List Text
operator_words = codes "AND" ∷ codes "OR" ∷ codes "XOR" ∷ codes "NOT" ∷ codes "MOD" ∷ []

-- a word in upper case is a keyword
unfoldable pub is_keyword : Text → Bool
is_keyword word =
    is_among block_words word || is_among section_words word || is_among type_words word
    || is_among statement_words word || is_among loop_words word || is_among operator_words word

-- the name that a text is: an identifier that is no keyword, in upper case
unfoldable pub name : Text → Option Text
name z = if is_identifier z && not (is_keyword (in_upper z)) then Some (in_upper z) else None

-- what is before the first mark, and what follows it
unfoldable pub parted : ℕ → Text → Option (Text × Text)
parted mark z = option_map (λ i. (take i z, drop (i + 1) z)) (position (nat_eq mark) z)

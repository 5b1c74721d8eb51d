-- The statements of a document: its headings, and its keys with their values (TOML 1.1, "Table", "Array of Tables").
use Rattle.std.specs.Prelude.{ℕ, zero, suc, ◌&&◌, ◌==◌, if◌then◌else◌, List, [], ◌∷◌, length, drop, slice_index, Some, None, option_map, unwrap_or}
use Rattle.std.specs.Str.{is_utf8}
use Rattle.toml_parser.specs.Lexical.{Read, left_bracket, right_bracket, first, skip_blank, skip_ws}
use Rattle.toml_parser.specs.Strings as toml
use Rattle.toml_parser.specs.Strings.{recursion_limit}
use Rattle.toml.specs.Parse.{after_byte, ends_line, header_key, key_equals, skip_bom}
use Rattle.fb_deploy_positions.specs.Values.{Text, ◌>>=◌, after_value}
use Rattle.fb_deploy_positions.specs.declared.statement.Kind.{Kind}
use Rattle.fb_deploy_positions.specs.declared.statement.Kind.TheVariants as kind

-- A statement, by the texts that begin with it and with its value. A heading has no value.
pub record StatementAt : Type 0 where
  pub kind : Kind
  pub key : toml.Key
  pub begin : Text
  pub value : Text

-- the heading of an element of an array of tables
abbrev pub element_heading : Text → Read StatementAt
element_heading text = header_key (drop 2 text) >>= (λ k. option_map (λ rest. (record { kind = kind.Element; key = k.0; begin = text; value = [] }, rest)) (after_byte right_bracket k.1))

-- the heading of a table
abbrev pub table_heading : Text → Read StatementAt
table_heading text = option_map (λ k. (record { kind = kind.Table; key = k.0; begin = text; value = [] }, k.1)) (header_key (drop 1 text))

-- a key with its value
abbrev pub assignment : Text → Read StatementAt
assignment text = key_equals text >>= (λ k. option_map (λ rest. (record { kind = kind.Key; key = k.0; begin = text; value = k.1 }, rest)) (after_value recursion_limit k.1))

unfoldable pub statement : Text → Read StatementAt
statement text =
    if first text == left_bracket && slice_index text 1 == left_bracket then element_heading text
    else if first text == left_bracket then table_heading text
    else assignment text

-- a statement that has its line to itself
unfoldable pub line : Text → Read StatementAt
line text = statement text >>= (λ s. if ends_line (skip_ws s.1) then Some s else None)

-- the statements of the rest of a text, at most n, up to one that is none
unfoldable pub statements_from : ℕ → Text → List StatementAt
statements_from zero text = []
statements_from (suc n) text =
    let start = skip_blank text in
    if length start == 0 then [] else unwrap_or (option_map (λ s. s.0 ∷ statements_from n s.1) (line start)) []

-- the statements of a document; bytes that are not UTF-8 are none
abbrev pub statements : Text → List StatementAt
statements text = if is_utf8 text then statements_from (suc (length text)) (skip_bom text) else []

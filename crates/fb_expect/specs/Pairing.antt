-- The values of variables of a line, by which rules pair lines (docs/FORMATS.md, "Rules over traces"; this project's own).
use Rattle.std.specs.Prelude.{Bool, true, false, List, [], ◌∷◌, Option, Some, None, if◌then◌else◌}
use Rattle.std.specs.List.{list_all}
use Rattle.std.specs.Option.{option_map_or}
use Rattle.std.specs.Str.{bytes_eq}
use Rattle.fb_types.specs.Names.{Name}
use Rattle.fb_expect.specs.Words.{Text, split_at_mark, words_after}

-- the text after the equals sign of a word, if the word is of a variable
unfoldable pub text_of : Name → (word : Text) → Option Text
text_of name w = option_map_or (λ p. if bytes_eq p.0 name then Some p.1 else None) (split_at_mark 61 w) None

abbrev pub or_else : Option Text → Option Text → Option Text
or_else (Some t) other = Some t
or_else None other = other

abbrev pub text_in : Name → (words : List Text) → Option Text
text_in name [] = None
text_in name (w ∷ ws) = or_else (text_of name w) (text_in name ws)

-- The text of a variable's value among the values after a port. Values have one text each, so equal texts are equal values.
abbrev pub text_at : Name → (values : Text) → Option Text
text_at name values = text_in name (words_after values)

abbrev pub is_same_text : (a b : Option Text) → Bool
is_same_text (Some x) (Some y) = bytes_eq x y
is_same_text (Some x) None = false
is_same_text None b = false

-- whether two lines have equal values of these variables
abbrev pub are_same : List Name → (a b : Text) → Bool
are_same names a b = list_all (λ n. is_same_text (text_at n a) (text_at n b)) names

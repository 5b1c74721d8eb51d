-- The lines of a text (this project's own).
use Rattle.std.specs.Io.{StopsAt}
use Rattle.fb_expect.specs.Words.{Text}

-- No line feed is in the text, but at its end.
abbrev pub IsOneLine : Text → Type 0
IsOneLine text = StopsAt text 10

-- Places in a text, with their lines and columns (this project's own).
use Rattle.std.specs.Prelude.{◌≡◌, ◌≤◌, ℕ, Option, Some, None, MatchOption, ◌+◌, ◌==◌, not, length, take, count_by}
use Rattle.std.specs.List.{suffix_len}
use Rattle.fb_read.specs.Blank.{Text}
use Rattle.fb_read.specs.Tokens.{after_mark}
use Rattle.fb_read.specs.declared.token.Span.{Span}
use Rattle.fb_types.specs.declared.library.Library.{Library}
use Rattle.fb_read_positions.specs.Spans.{IsAt, IsNowhere}
use Rattle.fb_read_positions.specs.declared.position.Position.{Position}
use Rattle.fb_read_positions.specs.declared.places.Counted.{Counted}
use Rattle.fb_read_positions.specs.declared.places.Place.{Place}

-- the line of the byte at an offset: one more than there are line feeds before it
abbrev pub line_at : Text → ℕ → ℕ
line_at text offset = 1 + count_by (λ b. b == 10) (take offset text)

-- its column: one more than there are bytes between it and the line feed before it
abbrev pub column_at : Text → ℕ → ℕ
column_at text offset = 1 + suffix_len (λ b. not (b == 10)) (take offset text)

-- the line and the column at an offset
pub record IsCounted (text : Text) (offset : ℕ) (c : Counted) : Type 0 where
  pub line : c.line ≡ line_at text offset
  pub column : c.column ≡ column_at text offset

-- The place is in the text, after its byte order mark, and its line and its column are those at which it begins.
pub record IsPlace (text : Text) (place : Place) : Type 0 where
  pub columns : length text ≤ place.start + length (after_mark text)
  pub ordered : place.start ≤ place.end
  pub within : place.end ≤ length text
  pub line : place.line ≡ line_at text place.start
  pub column : place.column ≡ column_at text place.start

-- the offsets are in the text, after its byte order mark
pub record IsWithin (text : Text) (start end : ℕ) : Type 0 where
  pub after : length text ≤ start + length (after_mark text)
  pub ordered : start ≤ end
  pub within : end ≤ length text

-- it is between these offsets
pub record IsStretch (start end : ℕ) (place : Place) : Type 0 where
  pub start_is : place.start ≡ start
  pub end_is : place.end ≡ end

-- The place is that of the token at the position, with its line and its column. If the library has a name at this
-- position, the token is this name.
pub record IsPlaceAt (text : Text) (library : Library) (position : Position) (place : Place) : Type 0 where
  pub span : Span
  pub at : IsAt text library position span
  pub there : IsStretch span.start span.end place
  pub located : IsPlace text place

-- The place is that of the position. There is none if nothing is at the position, and for no position.
abbrev pub IsPlaceFor : Text → Library → Option Position → Option Place → Type 0
IsPlaceFor text library None place = place ≡ None
IsPlaceFor text library (Some position) place = MatchOption place (IsNowhere text library position) (IsPlaceAt text library position)

-- Where the refusals of a text apply (this project's own).
use Rattle.std.specs.Prelude.{◌≡◌, ◌≤◌, ◌<◌, ◌-◌, ℕ, [], Ok, Some, drop, length, take}
use Rattle.fb_types.specs.declared.library.Library.{Library}
use Rattle.fb_read.specs.declared.error.ReadError.{ReadError}
use Rattle.fb_read.specs.declared.error.ReadError.TheVariants as error
use Rattle.fb_read.specs.declared.refused.TextFault.{TextFault}
use Rattle.fb_read.specs.declared.refused.TextFault.TheVariants as text_fault
use Rattle.fb_read.specs.declared.token.Token.{Token}
use Rattle.fb_read.specs.Blank.{Text, skip, start}
use Rattle.fb_read.specs.Front.{front}
use Rattle.fb_read.specs.Whole.{HasTokens, IsLibraryText}
use Rattle.fb_read.specs.Refusals.{IsErrorAt, IsFaultAt}
use Rattle.fb_why.specs.declared.find.TextRefusal.{TextRefusal}
use Rattle.fb_read_positions.specs.declared.places.Place.{Place}
use Rattle.fb_read_positions.specs.Places.{IsPlace, IsStretch, line_at}

-- The fault is the one of the refusal; a syntax fault is on this line.
abbrev pub Agrees : ReadError → TextFault → ℕ → Type 0
Agrees error.Byte text_fault.Byte line = Unit {0}
Agrees error.Token text_fault.Token line = Unit {0}
Agrees (error.Syntax refused_line) text_fault.Syntax line = refused_line ≡ line
Agrees error.TooLong text_fault.TooLong line = Unit {0}
Agrees error.Nesting text_fault.Nesting line = Unit {0}
Agrees _ found line = ⊥

-- the text has tokens, and they are the tokens of no library
pub record IsNoLibrary (text : Text) : Type 0 where
  pub tokens : HasTokens text
  pub none : (library : Library) → IsLibraryText text library → ⊥

-- a token of the text ends at this offset, and nothing but blanks and comments follows it
pub record EndsAt (text : Text) (offset : ℕ) : Type 0 where
  pub token : Token
  pub begin : ℕ
  pub some : begin < offset
  pub within : offset ≤ length text
  pub is_token : front (drop begin text) ≡ Ok (token, offset - begin)
  pub blank : skip start (drop offset text) ≡ Some []

-- The place is empty, at the end of the last token before this offset.
pub record IsAfterToken (text : Text) (offset : ℕ) (place : Place) : Type 0 where
  pub ends : EndsAt (take offset text) place.start
  pub empty : place.end ≡ place.start

-- The place at which a fault between two offsets is shown: there, or after the token before it, where the grammar
-- refuses the token.
pub data IsShownFor (text : Text) (found : TextFault) (begin end : ℕ) (place : Place) : Type 0 where
  at_token : IsStretch begin end place → IsShownFor text found begin end place
  before_token : found ≡ text_fault.Syntax → IsAfterToken text begin place → IsShownFor text found begin end place

-- The place is in the text, and shows a fault of the refusal, which applies between two offsets. If it is for nesting,
-- the text up to there is no library.
pub record FindsFault (text : Text) (fault : ReadError) (place : Place) : Type 0 where
  pub is_place : IsPlace text place
  pub found : TextFault
  pub begin : ℕ
  pub end : ℕ
  pub agrees : Agrees fault found (line_at text begin)
  pub applies : IsFaultAt found text begin end
  pub shown : IsShownFor text found begin end place
  pub up_to : found ≡ text_fault.Nesting → IsNoLibrary (take end text)

-- The place shows what the reader of libraries reports for this refusal.
abbrev pub IsTextRefusal : Text → TextRefusal → Type 0
IsTextRefusal text r = (fault : ReadError) → IsErrorAt r.refusal.fault text r.refusal.start fault → FindsFault text fault r.place

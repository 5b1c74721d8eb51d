-- Where a declaration text is refused (this project's own).
use Rattle.std.specs.Prelude.{◌≡◌, ◌<◌, ◌≤◌, ◌==◌, ℕ, suc, ◌+◌, ◌-◌, List, [], ◌∷◌, length, drop, take, count_by, None, Ok, Err}
use Rattle.fb_read.specs.declared.token.Located.{Located}
use Rattle.fb_read.specs.declared.token.Token.{Token}
use Rattle.fb_read.specs.declared.error.ReadError.{ReadError}
use Rattle.fb_read.specs.declared.error.ReadError.TheVariants as error
use Rattle.fb_read.specs.declared.expected.Expected.{Expected}
use Rattle.fb_read.specs.declared.refused.ReadFault.{ReadFault}
use Rattle.fb_read.specs.declared.refused.ReadFault.TheVariants as fault
use Rattle.fb_read.specs.declared.read.Unread.{Unread}
use Rattle.fb_read.specs.declared.read.Unread.TheVariants as unread
use Rattle.fb_read.specs.declared.refused.Refusal.{Refusal}
use Rattle.fb_read.specs.declared.refused.TextFault.{TextFault}
use Rattle.fb_read.specs.declared.refused.TextFault.TheVariants as text_fault
use Rattle.fb_read.specs.Blank.{Text, at, skip, start}
use Rattle.fb_read.specs.declared.front.LexFault.{LexFault}
use Rattle.fb_read.specs.declared.front.LexFault.TheVariants as lex_fault
use Rattle.fb_read.specs.Front.{bad_byte, bad_token, Found, Gives, front}
use Rattle.fb_read.specs.Tokens.{Tokens, tokens_of, after_mark}
use Rattle.fb_read.specs.Located.{AreLocated, IsFirstFaultAt}
use Rattle.fb_read.specs.Stops.{BeginsNoneThatFits, Stops}
use Rattle.fb_read.specs.Parser.{syntax, too_deep}
use Rattle.fb_read.specs.Blocks.{library}
use Rattle.fb_read.specs.Whole.{most_bytes, ended}

-- The first byte past the greatest length is there.
pub record IsTooLongAt (text : Text) (begin end : ℕ) : Type 0 where
  pub long : most_bytes < length text
  pub begin_is : begin ≡ most_bytes
  pub end_is : end ≡ suc most_bytes

-- One byte is there, and it is the first fault of the text.
pub record IsByteAt (text : Text) (begin end : ℕ) : Type 0 where
  pub short : length text ≤ most_bytes
  pub first : IsFirstFaultAt bad_byte text begin (after_mark text)
  pub one : end ≡ suc begin
  pub within : end ≤ length text

-- The first fault of the text is there, and it is one of a token.
pub record IsFaultyTokenAt (text : Text) (begin end : ℕ) : Type 0 where
  pub short : length text ≤ most_bytes
  pub first : IsFirstFaultAt bad_token text begin (after_mark text)
  pub some : begin < end
  pub within : end ≤ length text

-- a token of this length is at the front of the text
abbrev pub IsTokenLen : Text → ℕ → Type 0
IsTokenLen z n = (t : Token) × (front z ≡ Ok (t, n)) × (0 < n) × (n ≤ length z)

-- The first of these last tokens of the text is there. The end of the text is there if there is none.
abbrev pub IsNext : List Located → Text → ℕ → ℕ → Type 0
IsNext [] text begin end = (begin ≡ length text) × (end ≡ length text)
IsNext (p ∷ ps) text begin end = (begin ≡ p.index) × (front (drop begin text) ≡ Ok (p.token, end - begin)) × (begin < end) × (end ≤ length text)

-- The tokens of the text form no library: the grammar stops at the token there, and no library begins with the tokens up
-- to it. At the end of the text, the tokens are those of no library.
pub record IsSyntaxAt (text : Text) (begin end : ℕ) : Type 0 where
  pub short : length text ≤ most_bytes
  pub placed : List Located
  pub located : AreLocated text placed (after_mark text)
  pub left : Tokens
  pub refused : ended (library (tokens_of placed)) ≡ Err (syntax left)
  pub stops : Stops left (tokens_of placed)
  pub next : IsNext (drop (length placed - length left) placed) text begin end

-- these tokens are refused for their nesting
abbrev pub IsTooDeep : List Located → Type 0
IsTooDeep ps = ended (library (tokens_of ps)) ≡ Err too_deep

-- so are this number of them, and it is not 0
abbrev pub IsDeepLen : List Located → ℕ → Type 0
IsDeepLen ps n = (0 < n) × (n ≤ length ps) × IsTooDeep (take n ps)

-- this is the least such number
abbrev pub IsFirstDeep : List Located → ℕ → Type 0
IsFirstDeep ps n = IsDeepLen ps n × (IsTooDeep (take (n - 1) ps) → ⊥)

-- The tokens of the text form no library because something nests too deep. The first of them is there such that those up to
-- it are refused for their nesting. No library that keeps the limit begins with those.
pub record IsNestingAt (text : Text) (begin end : ℕ) : Type 0 where
  pub short : length text ≤ most_bytes
  pub placed : List Located
  pub located : AreLocated text placed (after_mark text)
  pub refused : IsTooDeep placed
  pub index : ℕ
  pub some : index < length placed
  pub next : IsNext (drop index placed) text begin end
  pub up_to : IsTooDeep (take (suc index) placed)
  pub first : IsTooDeep (take index placed) → ⊥
  pub none : BeginsNoneThatFits (tokens_of (take (suc index) placed))

-- The tokens of a text that is refused for its syntax are not refused for their nesting.
abbrev pub SyntaxIsNoNesting : Type 0
SyntaxIsNoNesting = (text : Text) (begin end : ℕ) (placed : List Located) → IsSyntaxAt text begin end → AreLocated text placed (after_mark text) → IsTooDeep placed → ⊥

-- The text is refused for this between two offsets.
abbrev pub IsFaultAt : TextFault → Text → ℕ → ℕ → Type 0
IsFaultAt text_fault.Byte = IsByteAt
IsFaultAt text_fault.Token = IsFaultyTokenAt
IsFaultAt text_fault.Syntax = IsSyntaxAt
IsFaultAt text_fault.TooLong = IsTooLongAt
IsFaultAt text_fault.Nesting = IsNestingAt

-- why a text is not read
abbrev pub IsRefused : Text → ReadFault → Type 0
IsRefused text fault.Memory = Unit {0}
IsRefused text (fault.Refused r) = IsFaultAt r.fault text r.start r.end

-- These are the tokens of the text, and form no library because something nests too deep. Where is not said.
pub record AreTooDeep (text : Text) (placed : List Located) : Type 0 where
  pub short : length text ≤ most_bytes
  pub located : AreLocated text placed (after_mark text)
  pub refused : IsTooDeep placed

-- the text, which has these tokens, is refused for this
abbrev pub IsUnreadOf : Text → List Located → Unread → Type 0
IsUnreadOf text placed (unread.Fault e) = IsRefused text e
IsUnreadOf text placed (unread.Nesting left) = AreTooDeep text placed

-- the text is refused for this
abbrev pub IsUnread : Text → Unread → Type 0
IsUnread text (unread.Fault e) = IsRefused text e
IsUnread text (unread.Nesting left) = (placed : List Located) × AreTooDeep text placed

-- no kind of tokens
abbrev pub nothing : Expected
nothing = record { kinds = 0 }

abbrev pub refused_at : TextFault → ℕ → ℕ → ReadFault
refused_at why first last = fault.Refused (record { fault = why; start = first; end = last; expected = nothing })

-- the refusal of the same fault at the same bytes, whatever is expected there
abbrev pub IsSameFault : Refusal → ReadFault → Type 0
IsSameFault r fault.Memory = Unit {0}
IsSameFault r (fault.Refused s) = (s.fault ≡ r.fault) × (s.start ≡ r.start) × (s.end ≡ r.end)

-- the refusal of a text with this fault at an offset
abbrev pub IsFaultOf : Text → ℕ → LexFault → ReadFault → Type 0
IsFaultOf text k lex_fault.Memory e = e ≡ fault.Memory
IsFaultOf text k lex_fault.Byte e = e ≡ refused_at text_fault.Byte k (suc k)
IsFaultOf text k lex_fault.Token e = (last : ℕ) × (k < last) × (last ≤ length text) × (e ≡ refused_at text_fault.Token k last)

-- the refusal of a text whose token at an offset is not read
abbrev pub IsFoundAt : Text → ℕ → Found → ReadFault → Type 0
IsFoundAt text k found e = (f : LexFault) × Gives (Err f) found × IsFaultOf text k f e

-- the refusal of a text for the comment that is not closed in an end of it
pub record IsUnclosed (text rest : Text) (e : ReadFault) : Type 0 where
  pub index : ℕ
  pub is : e ≡ refused_at text_fault.Token index (length text)
  pub within : index < length text
  pub there : at text index ≡ 40
  pub none : skip start (drop index text) ≡ None
  pub inside : length (drop index text) ≤ length rest

-- the refusal is at the first of these tokens, or at the end of the text
abbrev pub IsAtNext : Text → List Located → TextFault → ReadFault → Type 0
IsAtNext text ps why fault.Memory = Unit {0}
IsAtNext text ps why (fault.Refused r) = (r.fault ≡ why) × IsNext ps text r.start r.end

-- the refusal by its number, with the line of its offset for a syntax fault
abbrev pub IsErrorAt : TextFault → Text → ℕ → ReadError → Type 0
IsErrorAt text_fault.Byte text begin e = e ≡ error.Byte
IsErrorAt text_fault.Token text begin e = e ≡ error.Token
IsErrorAt text_fault.Syntax text begin e = e ≡ error.Syntax (1 + count_by (λ b. b == 10) (take begin text))
IsErrorAt text_fault.TooLong text begin e = e ≡ error.TooLong
IsErrorAt text_fault.Nesting text begin e = e ≡ error.Nesting

-- the refusal without its offsets
abbrev pub IsErrorOf : Text → ReadFault → ReadError → Type 0
IsErrorOf text fault.Memory e = e ≡ error.Memory
IsErrorOf text (fault.Refused r) e = IsErrorAt r.fault text r.start e

-- the refusal, which needs no place
abbrev pub IsErrorFor : Text → Unread → ReadError → Type 0
IsErrorFor text (unread.Fault f) e = IsErrorOf text f e
IsErrorFor text (unread.Nesting left) e = e ≡ error.Nesting

-- The text is refused where the definitions refuse it, and for that: a syntax fault has the line of the place, and a nesting that is too
-- deep is one in the whole text.
abbrev pub IsRightError : Text → ReadError → Type 0
IsRightError text e = (why : Unread) × IsUnread text why × IsErrorFor text why e

-- the first byte past the greatest length
abbrev pub too_long : ReadFault
too_long = refused_at text_fault.TooLong most_bytes (suc most_bytes)

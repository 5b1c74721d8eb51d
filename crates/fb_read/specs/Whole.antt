-- The library that a whole text declares (this project's profile, in the manner of IEC 61499-1, Annex B).
use Rattle.std.specs.Prelude.{◌≡◌, ◌≤◌, ◌⊎◌, ℕ, true, [], ◌∷◌, length, Result, Ok, Err}
use Rattle.fb_types.specs.declared.library.Library.{Library}
use Rattle.fb_read.specs.declared.error.ReadError.{ReadError}
use Rattle.fb_read.specs.declared.error.ReadError.TheVariants as error
use Rattle.fb_read.specs.Blank.{Text}
use Rattle.fb_read.specs.Front.{TokenFault}
use Rattle.fb_read.specs.Tokens.{Tokens, after_mark, AreTokens, IsFirstFault}
use Rattle.fb_read.specs.Parser.{Outcome, RuleFault, syntax}
use Rattle.fb_read.specs.BlocksGrammar.{IsLibrary}
use Rattle.fb_read.specs.Fits.{fits_library}

-- the greatest length of a text, in bytes
abbrev pub most_bytes : ℕ
most_bytes = 1048576

-- The tokens of this text are derived as this library by the grammar, with nothing left. There is no limit of nesting.
pub record IsDerived (text : Text) (library : Library) : Type 0 where
  pub short : length text ≤ most_bytes
  pub tokens : Tokens
  pub read : AreTokens tokens (after_mark text)
  pub derived : IsLibrary library tokens []

-- This text declares this library: it is derived, and nothing in it nests too deep.
pub record IsLibraryText (text : Text) (library : Library) : Type 0 where
  pub derived : IsDerived text library
  pub fits : fits_library library ≡ true

-- nothing may be left
abbrev pub ended : Outcome Library → Result Library RuleFault
ended (Ok (x, [])) = Ok x
ended (Ok (x, (t ∷ ts))) = Err (syntax (t ∷ ts))
ended (Err fault) = Err fault

abbrev pub IsMemory : ReadError → Type 0
IsMemory error.Memory = Unit {0}
IsMemory error.Byte = ⊥
IsMemory error.Token = ⊥
IsMemory (error.Syntax line) = ⊥
IsMemory error.TooLong = ⊥
IsMemory error.Nesting = ⊥

-- an expression or a statement nests too deep
abbrev pub IsNesting : ReadError → Type 0
IsNesting error.Memory = ⊥
IsNesting error.Byte = ⊥
IsNesting error.Token = ⊥
IsNesting (error.Syntax line) = ⊥
IsNesting error.TooLong = ⊥
IsNesting error.Nesting = Unit {0}

-- the text is short, and a byte or a token is the first that is at fault
pub record HasTokenFault (fault : TokenFault) (text : Text) : Type 0 where
  pub short : length text ≤ most_bytes
  pub first : IsFirstFault fault (after_mark text)

-- the text is short, and has tokens
pub record HasTokens (text : Text) : Type 0 where
  pub short : length text ≤ most_bytes
  pub tokens : Tokens
  pub read : AreTokens tokens (after_mark text)

-- A result is this refusal exactly if the fact holds, unless memory runs out.
pub record RefusesWhere (result : Result Library ReadError) (e : ReadError) (P : Type 0) : Type 0 where
  pub only : result ≡ Err e → P
  pub always : P → (result ≡ Err e) ⊎ (result ≡ Err error.Memory)

-- the refusal is one of the grammar's
abbrev pub IsGrammarFault : ReadError → Type 0
IsGrammarFault error.Memory = ⊥
IsGrammarFault error.Byte = ⊥
IsGrammarFault error.Token = ⊥
IsGrammarFault (error.Syntax line) = Unit {0}
IsGrammarFault error.TooLong = ⊥
IsGrammarFault error.Nesting = Unit {0}

-- a text declares at most one library
abbrev pub DeclaresOne : Type 0
DeclaresOne = (text : Text) (x y : Library) → IsLibraryText text x → IsLibraryText text y → x ≡ y

-- The steps that every rule of the parser is made of.
use Rattle.std.specs.Prelude.{◌≡◌, ℕ, zero, suc, ℤ, pos, Bool, false, true, if◌then◌else◌, ◌==◌, List, [], ◌∷◌, ◌++◌, length, Option, Some, None, Result, Ok, Err}
use Rattle.std.specs.Str.{bytes_eq}
use denote.Enum.Bare.{sameb}
use Rattle.fb_types.specs.Names.{Name}
use Rattle.fb_types.specs.declared.value.Ty.{Ty}
use Rattle.fb_types.specs.declared.value.Ty.TheVariants as ty
use Rattle.fb_read.specs.contracts.token.Mark.{the_type}
use Rattle.fb_read.specs.declared.token.Mark.{Mark}
use Rattle.fb_read.specs.declared.token.Mark.TheVariants as mark
use Rattle.fb_read.specs.declared.token.Token.{Token}
use Rattle.fb_read.specs.declared.token.Token.TheVariants as token
use Rattle.fb_read.specs.declared.fault.ParseFault.{ParseFault}
use Rattle.fb_read.specs.declared.fault.ParseFault.TheVariants as fault
use Rattle.fb_read.specs.Tokens.{Tokens}

-- the two marks are the same
unfoldable pub same_mark : Mark → Mark → Bool
same_mark = sameb the_type

abbrev pub is_mark : Mark → Token → Bool
is_mark k (token.Mark other) = same_mark other k
is_mark k _ = false

abbrev pub sees : Mark → Tokens → Bool
sees k [] = false
sees k (t ∷ ts) = is_mark k t

abbrev pub sees_name : Tokens → Bool
sees_name (token.Name text ∷ ts) = true
sees_name _ = false

abbrev pub rest_of : Tokens → Tokens
rest_of [] = []
rest_of (t ∷ ts) = ts

-- why a rule refuses: at the first of these tokens, or at the end where none is left; or for its nesting
pub data RuleFault : Type 0 where
  syntax : Tokens → RuleFault
  too_deep : RuleFault

abbrev pub Outcome : Type 0 → Type 0
Outcome A = Result (A × Tokens) RuleFault

abbrev pub Parser : Type 0 → Type 0
Parser A = Tokens → Outcome A

abbrev pub and_then : {A B : Type 0} → Outcome A → (A → Parser B) → Outcome B
and_then (Ok p) f = f p.0 p.1
and_then (Err e) f = Err e

infixl 10 ◌>>=◌
abbrev pub ◌>>=◌ : {A B : Type 0} → Parser A → (A → Parser B) → Parser B
p >>= f = λ ts. and_then (p ts) f

infixl 10 ◌>>◌
abbrev pub ◌>>◌ : {A B : Type 0} → Parser A → Parser B → Parser B
p >> q = p >>= (λ _. q)

abbrev pub pure : {A : Type 0} → A → Parser A
pure a = λ ts. Ok (a, ts)

abbrev pub refuse : {A : Type 0} → Parser A
refuse = λ ts. Err (syntax ts)

unfoldable pub after : Mark → Tokens → Tokens
after k ts = if sees k ts then rest_of ts else ts

-- takes this mark, if it is next
abbrev pub eat : Mark → Parser Bool
eat k = λ ts. Ok (sees k ts, after k ts)

unfoldable pub expect : Mark → Parser (Unit {0})
expect k = λ ts. if sees k ts then Ok (tt, rest_of ts) else Err (syntax ts)

unfoldable pub name : Parser Name
name [] = Err (syntax [])
name (token.Name text ∷ ts) = Ok (text, ts)
name (t ∷ ts) = Err (syntax (t ∷ ts))

-- the next token, if it is a name
unfoldable pub name_if : Parser (Option Name)
name_if (token.Name text ∷ ts) = Ok (Some text, ts)
name_if ts = Ok (None, ts)

-- a name with this spelling
unfoldable pub word : Name → Parser (Unit {0})
word text [] = Err (syntax [])
word text (token.Name found ∷ ts) = if bytes_eq found text then Ok (tt, ts) else Err (syntax (token.Name found ∷ ts))
word text (t ∷ ts) = Err (syntax (t ∷ ts))

-- the elementary type that a keyword names
abbrev pub ty_of : Mark → Option Ty
ty_of mark.Bool = Some ty.Bool
ty_of mark.Sint = Some ty.Sint
ty_of mark.Int = Some ty.Int
ty_of mark.Dint = Some ty.Dint
ty_of mark.Lint = Some ty.Lint
ty_of mark.Usint = Some ty.Usint
ty_of mark.Uint = Some ty.Uint
ty_of mark.Udint = Some ty.Udint
ty_of mark.Ulint = Some ty.Ulint
ty_of mark.Time = Some ty.Time
ty_of _ = None

-- the type that the token names, by the tokens after it
abbrev pub typed : Option Ty → Token → Parser Ty
typed (Some x) t ts = Ok (x, ts)
typed None t ts = Err (syntax (t ∷ ts))

unfoldable pub ty_name : Parser Ty
ty_name [] = Err (syntax [])
ty_name (token.Mark k ∷ ts) = typed (ty_of k) (token.Mark k) ts
ty_name (t ∷ ts) = Err (syntax (t ∷ ts))

unfoldable pub whole : Parser ℕ
whole [] = Err (syntax [])
whole (token.Whole n ∷ ts) = Ok (n, ts)
whole (t ∷ ts) = Err (syntax (t ∷ ts))

-- a whole literal whose value is 1
unfoldable pub one : Parser (Unit {0})
one [] = Err (syntax [])
one (token.Whole n ∷ ts) = if n == 1 then Ok (tt, ts) else Err (syntax (token.Whole n ∷ ts))
one (t ∷ ts) = Err (syntax (t ∷ ts))

-- a whole or a time literal
unfoldable pub literal : Parser ℤ
literal [] = Err (syntax [])
literal (token.Whole n ∷ ts) = Ok (pos n, ts)
literal (token.Time ticks ∷ ts) = Ok (ticks, ts)
literal (t ∷ ts) = Err (syntax (t ∷ ts))

-- what was found, and this mark after it
abbrev pub ended : {A : Type 0} → Mark → A → Parser A
ended end found = do
  expect end
  pure found

-- what was found, and this mark and a semicolon after it
abbrev pub finished : {A : Type 0} → Mark → A → Parser A
finished end found = do
  expect end
  expect mark.Semicolon
  pure found

-- what was found, and what a rule reads after this mark
unfoldable pub then_read : {A B : Type 0} → A → Mark → Parser B → Parser (A × B)
then_read found between second = do
  expect between
  y ← second
  pure (found, y)

-- what two rules read, with this mark between them
unfoldable pub pair : {A B : Type 0} → Parser A → Mark → Parser B → Parser (A × B)
pair first between second = do
  x ← first
  then_read x between second

-- the items up to a mark, and the mark; by the number of iterations that are left and the items so far
unfoldable pub many_from : {A : Type 0} → Parser A → Mark → ℕ → List A → Parser (List A)
many_from item end zero found = refuse
many_from item end (suc n) found = do
  ended ← eat end
  if ended then pure found else (do
    x ← item
    many_from item end n (found ++ x ∷ []))

unfoldable pub many_after : {A : Type 0} → Parser A → Mark → List A → Parser (List A)
many_after item end found = λ ts. many_from item end (length ts) found ts

unfoldable pub many : {A : Type 0} → Parser A → Mark → Parser (List A)
many item end = λ ts. many_from item end (length ts) [] ts

-- the items of a section, if its first mark is next
unfoldable pub section : {A : Type 0} → Parser A → Mark → Mark → Parser (List A)
section item begin end = do
  some ← eat begin
  if some then many item end else pure []

-- the items as long as this mark is next
unfoldable pub run_from : {A : Type 0} → Parser A → Mark → ℕ → List A → Parser (List A)
run_from item begin zero found = pure found
run_from item begin (suc n) found = λ ts. if sees begin ts then (item >>= (λ x. run_from item begin n (found ++ x ∷ []))) ts else Ok (found, ts)

unfoldable pub run_after : {A : Type 0} → Parser A → Mark → List A → Parser (List A)
run_after item begin found = λ ts. run_from item begin (length ts) found ts

-- one or more items with commas between them
unfoldable pub separated_from : {A : Type 0} → Parser A → ℕ → List A → Parser (List A)
separated_from item zero found = refuse
separated_from item (suc n) found = do
  x ← item
  more ← eat mark.Comma
  if more then separated_from item n (found ++ x ∷ []) else pure (found ++ x ∷ [])

unfoldable pub separated : {A : Type 0} → Parser A → Parser (List A)
separated item = λ ts. separated_from item (length ts) [] ts

-- what the rule reads after this mark, if the mark is next
unfoldable pub optional : {A : Type 0} → Parser A → Mark → Parser (Option A)
optional item begin = do
  some ← eat begin
  if some then (do
    x ← item
    pure (Some x))
      else pure None

-- one or more items with commas between them, if this mark is next
unfoldable pub listed : {A : Type 0} → Parser A → Mark → Parser (List A)
listed item begin = do
  some ← eat begin
  if some then separated item else pure []

-- what a function that reads a rule ensures: the parser's outcome, unless memory runs out
abbrev pub Reads : {A : Type 0} → Outcome A → Result A ParseFault → Tokens → Type 0
Reads outcome (Ok a) new = outcome ≡ Ok (a, new)
Reads outcome (Err fault.Memory) new = Unit {0}
Reads outcome (Err fault.Syntax) new = outcome ≡ Err (syntax new)
Reads outcome (Err fault.Nesting) new = outcome ≡ Err too_deep

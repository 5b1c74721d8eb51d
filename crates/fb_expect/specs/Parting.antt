-- Where two texts part (this project's own).
use Rattle.std.specs.Prelude.{◌≡◌, ◌⊎◌, ℕ, zero, suc, ◌+◌, ◌<◌, Bool, true, false, ◌&&◌, Option, Some, None, IfSome}
use Rattle.std.specs.Io.BufRead.{drop_through, take_through}
use Rattle.std.specs.Io.KnownBytes.{Consumes}
use Rattle.std.specs.Str.{bytes_eq}
use Rattle.fb_expect.specs.Lines.{IsOneLine}
use Rattle.fb_expect.specs.Timeless.{without_tick}
use Rattle.fb_expect.specs.Words.{Text}
use Rattle.fb_expect.specs.declared.parting.Difference.{Difference}
use Rattle.fb_expect.specs.declared.parting.PartFault.{PartFault}
use Rattle.fb_expect.specs.declared.parting.PartFault.TheVariants.{Memory, First, Second}

-- the line that a text begins with: up to its line feed, or up to the end, where nothing may be left
abbrev pub line_of : Text → Text
line_of text = take_through 10 text

-- what comes after this many lines of a text
abbrev pub rest_at : ℕ → Text → Text
rest_at zero text = text
rest_at (suc n) text = rest_at n (drop_through 10 text)

-- the line after this many
abbrev pub line_at : ℕ → Text → Text
line_at n text = line_of (rest_at n text)

-- two lines are the same, or are where their ticks are left out
abbrev pub AreAlike : (is_without_ticks : Bool) → (left right : Text) → Type 0
AreAlike false left right = left ≡ right
AreAlike true left right = without_tick left ≡ without_tick right

-- whether they are
abbrev pub are_alike : (is_without_ticks : Bool) → (left right : Text) → Bool
are_alike false left right = bytes_eq left right
are_alike true left right = bytes_eq (without_tick left).0 (without_tick right).0 && bytes_eq (without_tick left).1 (without_tick right).1

-- this many lines of two texts are alike
abbrev pub AreSame : (is_without_ticks : Bool) → ℕ → Text → Text → Type 0
AreSame w n a b = (k : ℕ) → k < n → AreAlike w (line_at k a) (line_at k b)

-- the lines of this number are these, and are not alike, and all before them are
pub record PartAt (is_without_ticks : Bool) (a b : Text) (number : ℕ) (left right : Text) : Type 0 where
  pub index : ℕ
  pub counted : number ≡ index + 1
  pub same : AreSame is_without_ticks index a b
  pub is_left : line_at index a ≡ left
  pub is_right : line_at index b ≡ right
  pub differ : AreAlike is_without_ticks left right → ⊥

-- two texts are the same, or have as many lines of which each two are alike
abbrev pub AreAllAlike : (is_without_ticks : Bool) → (a b : Text) → Type 0
AreAllAlike false a b = a ≡ b
AreAllAlike true a b = (k : ℕ) → AreAlike true (line_at k a) (line_at k b)

-- two texts are alike, or part first at these lines
abbrev pub Parts : (is_without_ticks : Bool) → (a b : Text) → Option Difference → Type 0
Parts w a b None = AreAllAlike w a b
Parts w a b (Some d) = PartAt w a b d.number d.left.items d.right.items

-- the same of texts that may not be known
abbrev pub MayPart : (is_without_ticks : Bool) → (a b : Option Text) → Option Difference → Type 0
MayPart w a b found = IfSome a (λ x. IfSome b (λ y. Parts w x y found))

abbrev pub Finds : (is_without_ticks : Bool) → (a b : Text) → (left right : Text) → Option ℕ → Type 0
Finds w a b left right None = AreAllAlike w a b
Finds w a b left right (Some number) = PartAt w a b number left right

abbrev pub MayFind : (is_without_ticks : Bool) → (a b : Option Text) → (left right : Text) → Option ℕ → Type 0
MayFind w a b left right found = IfSome a (λ x. IfSome b (λ y. Finds w x y left right found))

-- a reader comes after this many lines of a text
abbrev pub ComesAfter : ℕ → (old now : Option Text) → Type 0
ComesAfter n old now = IfSome old (λ x. now ≡ Some (rest_at n x))

-- both readers do, and all these lines are alike
pub record HasPassed (is_without_ticks : Bool) (n : ℕ) (a b : Option Text) (a-now b-now : Option Text) : Type 0 where
  pub first : ComesAfter n a a-now
  pub second : ComesAfter n b b-now
  pub same : IfSome a (λ x. IfSome b (λ y. AreSame is_without_ticks n x y))

-- ---- Texts that can't be compared

-- a reader gave this many lines of a text, and a part of the next one
abbrev pub StandsIn : ℕ → (old now : Option Text) → Type 0
StandsIn n old now = IfSome old (λ x. (part : Text) × IsOneLine part × Consumes (Some (rest_at n x)) now part)

-- the reader of the first text stands in the line of a number, and that of the second before it; all lines before it are alike
pub record StandsInFirst (is_without_ticks : Bool) (n : ℕ) (a b : Option Text) (a-now b-now : Option Text) : Type 0 where
  pub first : StandsIn n a a-now
  pub second : ComesAfter n b b-now
  pub same : IfSome a (λ x. IfSome b (λ y. AreSame is_without_ticks n x y))

-- that of the first comes after the line, and that of the second stands in it
pub record StandsInSecond (is_without_ticks : Bool) (n : ℕ) (a b : Option Text) (a-now b-now : Option Text) : Type 0 where
  pub first : ComesAfter (n + 1) a a-now
  pub second : StandsIn n b b-now
  pub same : IfSome a (λ x. IfSome b (λ y. AreSame is_without_ticks n x y))

-- Where two texts were not compared to their end: in the text whose reader failed, or where there was no memory for a line of one of them.
abbrev pub IsUnparted : (is_without_ticks : Bool) → (a b : Option Text) → (a-now b-now : Option Text) → PartFault → Type 0
IsUnparted w a b a-now b-now First = (n : ℕ) × StandsInFirst w n a b a-now b-now
IsUnparted w a b a-now b-now Second = (n : ℕ) × StandsInSecond w n a b a-now b-now
IsUnparted w a b a-now b-now Memory = (n : ℕ) × (StandsInFirst w n a b a-now b-now ⊎ StandsInSecond w n a b a-now b-now)

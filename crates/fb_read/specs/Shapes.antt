-- The shape of numbers and signs: the result of definitions that go from one byte to the next.
use Rattle.std.specs.Prelude.{◌≡◌, ◌<◌, ◌≤◌, ◌↔◌, ℕ, List, [], ◌∷◌, ◌++◌, length, take, slice_get, codes, All, Option, None, Some, true}
use Rattle.fb_read.specs.Blank.{Text}
use Rattle.fb_read.specs.Numbers.{are_digits, digit_of}
use Rattle.fb_read.specs.Front.{sign_of}
use Rattle.fb_read.specs.declared.token.Mark.{Mark}
use Rattle.fb_read.specs.declared.token.Mark.TheVariants as mark

-- digits of a base, at least one
pub record AreAllDigits (base : ℕ) (z : Text) : Type 0 where
  pub some : 1 ≤ length z
  pub digits : All (λ b. digit_of b < base) z

-- groups of digits, with an underscore before each
abbrev pub underscored : List Text → Text
underscored [] = []
underscored (g ∷ gs) = 95 ∷ (g ++ underscored gs)

-- Groups of digits of a base, with single underscores between them.
pub record AreGroups (base : ℕ) (z : Text) : Type 0 where
  pub first : Text
  pub others : List Text
  pub first_digits : AreAllDigits base first
  pub other_digits : All (AreAllDigits base) others
  pub text : z ≡ first ++ underscored others

-- What is read as the digits of a number are groups of digits, and such groups are read.
abbrev pub NumbersExactly : Type 0
NumbersExactly = (base : ℕ) (z : Text) → base ≤ 16 → (are_digits base true z ≡ true) ↔ AreGroups base z

-- ---- Signs

-- the signs, as they are written
abbrev pub signs : List (Text × Mark)
signs =
    (codes ";", mark.Semicolon) ∷ ((codes ":", mark.Colon) ∷ ((codes ":=", mark.Assign) ∷ ((codes ",", mark.Comma)
    ∷ ((codes ".", mark.Dot) ∷ ((codes "..", mark.DotDot) ∷ ((codes "(", mark.Open) ∷ ((codes ")", mark.Close)
    ∷ ((codes "[", mark.OpenSquare) ∷ ((codes "]", mark.CloseSquare) ∷ ((codes "-", mark.Minus) ∷ ((codes "->", mark.Arrow)
    ∷ ((codes "=", mark.Equal) ∷ ((codes "<", mark.Less) ∷ ((codes "<=", mark.LessOrEqual) ∷ ((codes "<>", mark.NotEqual)
    ∷ ((codes ">", mark.Greater) ∷ ((codes ">=", mark.GreaterOrEqual) ∷ ((codes "+", mark.Plus) ∷ ((codes "*", mark.Star)
    ∷ ((codes "/", mark.Slash) ∷ ((codes "&", mark.Ampersand) ∷ [])))))))))))))))))))))

-- A sign of the list, of this many bytes, is what two bytes begin with.
pub record IsSignOf (all : List (Text × Mark)) (b next : ℕ) (k : Mark) (n : ℕ) : Type 0 where
  pub index : ℕ
  pub written : Text
  pub listed : slice_get all index ≡ Some (written, k)
  pub front : take (length written) (b ∷ (next ∷ [])) ≡ written
  pub long : n ≡ length written

-- the longest of the signs that are there, or none where none does
abbrev pub IsLongest : List (Text × Mark) → (b next : ℕ) → Option (Mark × ℕ) → Type 0
IsLongest all b next None = (k : Mark) (n : ℕ) → IsSignOf all b next k n → ⊥
IsLongest all b next (Some (k, n)) = IsSignOf all b next k n × ((j : Mark) (m : ℕ) → IsSignOf all b next j m → m ≤ n)

abbrev pub SignsExactly : Type 0
SignsExactly = (b next : ℕ) → IsLongest signs b next (sign_of b next)

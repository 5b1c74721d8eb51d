-- What is between two tokens, by the shape of the text: blanks and comments (this project's profile, in the manner of IEC
-- 61131-3, 6.1).
use Rattle.std.specs.Prelude.{◌≡◌, ◌↔◌, ℕ, true, false, [], ◌∷◌, ◌++◌, Option, Some, None, codes}
use Rattle.fb_read.specs.Blank.{Text, is_blank, start, skip}

-- these bytes occur nowhere in the text
abbrev pub HasNo : Text → Text → Type 0
HasNo bytes text = (before following : Text) → before ++ (bytes ++ following) ≡ text → ⊥

-- a blank, or a comment: from `(*` to the next `*)`, or from `//` to the next line feed
pub data IsPause : Text → Type 0 where
  a_blank : (b : ℕ) → is_blank b ≡ true → IsPause (b ∷ [])
  a_comment : (inside : Text) → HasNo (codes "*)") inside → IsPause (codes "(*" ++ (inside ++ codes "*)"))
  a_line : (inside : Text) → HasNo (codes "\n") inside → IsPause (codes "//" ++ (inside ++ codes "\n"))

pub data ArePauses : Text → Type 0 where
  no_more : ArePauses []
  one_more : (a z : Text) → IsPause a → ArePauses z → ArePauses (a ++ z)

-- neither a blank nor a comment begins the text
pub record BeginsNone (z : Text) : Type 0 where
  pub no_blank : (b : ℕ) (rest : Text) → b ∷ rest ≡ z → is_blank b ≡ false
  pub no_comment : (rest : Text) → codes "(*" ++ rest ≡ z → ⊥
  pub no_line : (rest : Text) → codes "//" ++ rest ≡ z → ⊥

-- what is left of a text after all blanks and comments at its front
pub data Leaves : Text → Option Text → Type 0 where
  -- the next token, or nothing
  a_rest : (a rest : Text) → ArePauses a → BeginsNone rest → Leaves (a ++ rest) (Some rest)
  -- a comment on the last line, which no line feed ends
  a_last_line : (a inside : Text) → ArePauses a → HasNo (codes "\n") inside → Leaves (a ++ (codes "//" ++ inside)) (Some [])
  -- a comment that is not closed
  not_closed : (a inside : Text) → ArePauses a → HasNo (codes "*)") inside → Leaves (a ++ (codes "(*" ++ inside)) None

-- blanks and comments are skipped, all of them and nothing else
abbrev pub SkipsExactly : Type 0
SkipsExactly = (z : Text) (left : Option Text) → (skip start z ≡ left) ↔ Leaves z left

-- What a text has to be to be one token, regardless of where it is, and the longest token at the front of a text (this
-- project's profile, in the manner of IEC 61131-3, 6.1 to 6.3).
use Rattle.std.specs.Prelude.{◌≡◌, ◌↔◌, ℕ, ◌≤◌, pos, neg_ℤ, true, false, [], ◌∷◌, ◌++◌, length, take, Some, Ok, Err}
use Rattle.fb_read.specs.declared.token.Mark.{Mark}
use Rattle.fb_read.specs.declared.token.Token.{Token}
use Rattle.fb_read.specs.declared.token.Token.TheVariants as token
use Rattle.fb_read.specs.Blank.{Text, at}
use Rattle.fb_read.specs.Words.{is_letter, is_word, in_upper, keyword}
use Rattle.fb_read.specs.Numbers.{number}
use Rattle.fb_read.specs.Durations.{duration}
use Rattle.fb_read.specs.Front.{bad_byte, named, is_time_word, base_of, sign_of, is_plain, front}

-- only letters, digits and underscores
abbrev pub AreWord : Text → Type 0
AreWord [] = Unit {0}
AreWord (b ∷ z) = (is_word b ≡ true) × AreWord z

pub data IsToken : Token → Text → Type 0 where
  -- a letter or an underscore, and letters, digits and underscores: a keyword, or a name in upper case
  is_name : {b : ℕ} {z : Text} → is_letter b ≡ true → AreWord z → IsToken (named (in_upper (b ∷ z)) (keyword (in_upper (b ∷ z)))) (b ∷ z)
  is_decimal : {z : Text} {n : ℕ} → number 10 z ≡ Some n → IsToken (token.Whole n) z
  -- a base, `#` and digits
  is_based : (w z : Text) {base n : ℕ} → base_of w ≡ Some base → number base z ≡ Some n → IsToken (token.Whole n) (w ++ 35 ∷ z)
  -- T or TIME, `#`, perhaps `-`, and the parts of a duration
  is_duration : (w z : Text) {n : ℕ} → is_time_word (in_upper w) ≡ true → duration (in_upper z) ≡ Some n → IsToken (token.Time (pos n)) (w ++ 35 ∷ z)
  is_negative_duration : (w z : Text) {n : ℕ} → is_time_word (in_upper w) ≡ true → duration (in_upper z) ≡ Some n
      → IsToken (token.Time (neg_ℤ (pos n))) (w ++ 35 ∷ (45 ∷ z))
  is_sign : {b : ℕ} {z : Text} {k : Mark} → is_word b ≡ false → sign_of b (at z 0) ≡ Some (k, length (b ∷ z)) → IsToken (token.Mark k) (b ∷ z)

abbrev pub IsLiteral : Token → Type 0
IsLiteral (token.Mark k) = ⊥
IsLiteral (token.Name n) = ⊥
IsLiteral (token.Whole n) = Unit {0}
IsLiteral (token.Time n) = Unit {0}

-- This number of bytes at the front of the text is this token, and no longer front of it is a token. No letter, digit or
-- underscore follows a literal.
pub record IsLongest (t : Token) (n : ℕ) (z : Text) : Type 0 where
  pub is_token : IsToken t (take n z)
  pub none_longer : (u : Token) (a rest : Text) → IsToken u a → a ++ rest ≡ z → length a ≤ n
  pub parted : IsLiteral t → is_word (at z n) ≡ false

-- the tokens of a text are the longest ones
abbrev pub TakesLongest : Type 0
TakesLongest = (z : Text) (t : Token) (n : ℕ) → front z ≡ Ok (t, n) → IsLongest t n z

-- the first word of a literal that continues after a `#`: a base, T or TIME
pub data BeginsLiteral : Text → Type 0 where
  a_base : {w : Text} {base : ℕ} → base_of w ≡ Some base → BeginsLiteral w
  a_time_word : {w : Text} → is_time_word (in_upper w) ≡ true → BeginsLiteral w

-- The first of two texts is cut off before the second: it is the longest token at the front of both. No letter, digit or
-- underscore follows a literal, and no `#` a word that begins one.
pub record IsCut (t : Token) (a rest : Text) : Type 0 where
  pub is_token : IsToken t a
  pub none_longer : (u : Token) (b more : Text) → IsToken u b → b ++ more ≡ a ++ rest → length b ≤ length a
  pub parted : IsLiteral t → is_word (at rest 0) ≡ false
  pub not_begun : BeginsLiteral a → at rest 0 ≡ 35 → ⊥

-- A token is found at the front of a text exactly if it is cut off there. So if none is found there is none.
abbrev pub CutsExactly : Type 0
CutsExactly = (t : Token) (a rest : Text) → (front (a ++ rest) ≡ Ok (t, length a)) ↔ IsCut t a rest

-- What is at fault at the front of a text that is not empty is its first byte exactly if this may not occur outside of
-- comments, and else a token.
abbrev pub FaultsExactly : Type 0
FaultsExactly = (b : ℕ) (z : Text) → (front (b ∷ z) ≡ Err bad_byte) ↔ (is_plain b ≡ false)

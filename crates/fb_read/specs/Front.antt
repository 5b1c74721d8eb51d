-- The longest token at the front of a text (this project's profile, in the manner of IEC 61131-3, 6.1 to 6.3).
use Rattle.std.specs.Prelude.{◌≡◌, ℕ, ◌+◌, ℤ, pos, neg_ℤ, Bool, ◌&&◌, ◌||◌, if◌then◌else◌, ◌==◌, nat_le, drop, take, Option, Some, None, Result, Ok, Err, codes}
use Rattle.std.specs.Char.{is_ascii_digit}
use Rattle.std.specs.Str.{bytes_eq}
use Rattle.fb_read.specs.declared.token.Mark.{Mark}
use Rattle.fb_read.specs.declared.token.Mark.TheVariants as mark
use Rattle.fb_read.specs.declared.token.Token.{Token}
use Rattle.fb_read.specs.declared.token.Token.TheVariants as token
use Rattle.fb_read.specs.declared.front.LexFault.{LexFault}
use Rattle.fb_read.specs.declared.front.LexFault.TheVariants as fault
use Rattle.fb_read.specs.Blank.{Text, at}
use Rattle.fb_read.specs.Words.{is_letter, word_len, word_of, in_upper, keyword}
use Rattle.fb_read.specs.Numbers.{number}
use Rattle.fb_read.specs.Durations.{duration}

-- why there is no token
pub data TokenFault : Type 0 where
  bad_byte : TokenFault
  bad_token : TokenFault

-- a token and its length
abbrev pub Found : Type 0
Found = Result (Token × ℕ) TokenFault

abbrev pub found : Token → ℕ → Found
found t n = Ok (t, n)

abbrev pub named : Text → Option Mark → Token
named word None = token.Name word
named word (Some k) = token.Mark k

abbrev pub signed : Bool → ℕ → ℤ
signed negative n = if negative then neg_ℤ (pos n) else pos n

abbrev pub timed : Bool → ℕ → Option ℕ → Found
timed negative n None = Err bad_token
timed negative n (Some ticks) = found (token.Time (signed negative ticks)) n

-- where the parts of a time literal begin, by the index after its `#`
abbrev pub parts_start : Text → ℕ → ℕ
parts_start z start = if at z start == 45 then start + 1 else start

-- a time literal, by the index after its `#`
unfoldable pub time : Text → ℕ → Found
time z start =
    let first = parts_start z start in
    timed (at z start == 45) (first + word_len (drop first z)) (duration (in_upper (word_of (drop first z))))

-- the words that begin a time literal
abbrev pub is_time_word : Text → Bool
is_time_word word = bytes_eq word (codes "T") || bytes_eq word (codes "TIME")

-- a time literal, a keyword or a name
unfoldable pub word : Text → Found
word z =
    let n = word_len z in
    let text = in_upper (word_of z) in
    if at z n == 35 && is_time_word text then time z (n + 1) else found (named text (keyword text)) n

abbrev pub whole : ℕ → Option ℕ → Found
whole n None = Err bad_token
whole n (Some value) = found (token.Whole value) n

abbrev pub base_of : Text → Option ℕ
base_of word =
    if bytes_eq word (codes "2") then Some 2
    else (if bytes_eq word (codes "8") then Some 8 else (if bytes_eq word (codes "16") then Some 16 else None))

abbrev pub in_base : Text → ℕ → Option ℕ → Found
in_base z n None = whole n (number 10 (take n z))
in_base z n (Some base) = whole (n + 1 + word_len (drop (n + 1) z)) (number base (word_of (drop (n + 1) z)))

-- a whole literal: all letters, digits and underscores belong to it
unfoldable pub literal : Text → Found
literal z = let n = word_len z in in_base z n (if at z n == 35 then base_of (take n z) else None)

abbrev pub sign : Mark → ℕ → Option (Mark × ℕ)
sign k n = Some (k, n)

-- the longest sign that two bytes begin with
abbrev pub sign_of : ℕ → ℕ → Option (Mark × ℕ)
sign_of b next =
    if b == 59 then sign mark.Semicolon 1 else (if b == 58 then (if next == 61 then sign mark.Assign 2 else sign mark.Colon 1)
    else (if b == 44 then sign mark.Comma 1 else (if b == 46 then (if next == 46 then sign mark.DotDot 2 else sign mark.Dot 1)
    else (if b == 40 then sign mark.Open 1 else (if b == 41 then sign mark.Close 1 else (if b == 91 then sign mark.OpenSquare 1
    else (if b == 93 then sign mark.CloseSquare 1 else (if b == 45 then (if next == 62 then sign mark.Arrow 2 else sign mark.Minus 1)
    else (if b == 61 then sign mark.Equal 1
    else (if b == 60 then (if next == 62 then sign mark.NotEqual 2 else (if next == 61 then sign mark.LessOrEqual 2 else sign mark.Less 1))
    else (if b == 62 then (if next == 61 then sign mark.GreaterOrEqual 2 else sign mark.Greater 1)
    else (if b == 43 then sign mark.Plus 1 else (if b == 42 then sign mark.Star 1 else (if b == 47 then sign mark.Slash 1
    else (if b == 38 then sign mark.Ampersand 1 else None)))))))))))))))

-- a byte that may occur outside of comments
abbrev pub is_plain : ℕ → Bool
is_plain b = b == 9 || (b == 10 || (b == 13 || nat_le 32 b && nat_le b 126))

abbrev pub marked : ℕ → Option (Mark × ℕ) → Found
marked b (Some s) = found (token.Mark s.0) s.1
marked b None = if is_plain b then Err bad_token else Err bad_byte

-- the token at the front of a text that is not empty, and its length
unfoldable pub front : Text → Found
front z =
    if is_letter (at z 0) then word z
    else (if is_ascii_digit (at z 0) then literal z else marked (at z 0) (sign_of (at z 0) (at z 1)))

-- a function returns this, unless memory runs out
abbrev pub Gives : Result (Token × ℕ) LexFault → Found → Type 0
Gives (Ok t) outcome = outcome ≡ Ok t
Gives (Err fault.Memory) outcome = Unit {0}
Gives (Err fault.Byte) outcome = outcome ≡ Err bad_byte
Gives (Err fault.Token) outcome = outcome ≡ Err bad_token

-- The tokens of a text with the offsets at which they begin, and the first fault with its offset (this project's own).
use Rattle.std.specs.Prelude.{◌≡◌, ◌≤◌, ℕ, List, [], ◌∷◌, ◌++◌, drop, length, Some, None, Ok, Err}
use Rattle.fb_read.specs.declared.token.Token.{Token}
use Rattle.fb_read.specs.declared.token.Located.{Located}
use Rattle.fb_read.specs.declared.blank.BlankState.{BlankState}
use Rattle.fb_read.specs.declared.blank.BlankState.TheVariants.{Between, Opening, Inside, Closing, Line}
use Rattle.fb_read.specs.Blank.{Text, at, skip, start}
use Rattle.fb_read.specs.Front.{TokenFault, bad_token, front}

-- the first text is an end of the second
pub record IsEnd (end text : Text) : Type 0 where
  pub before : Text
  pub joined : before ++ end ≡ text

-- the tokens of an end of the text, each with its offset in the text
pub data AreLocated (text : Text) : List Located → Text → Type 0 where
  no_more : {z : Text} → skip start z ≡ Some [] → AreLocated text [] z
  then_token : {p : Located} {n : ℕ} {ps : List Located} {z here rest : Text} → skip start z ≡ Some here → front here ≡ Ok (p.token, n) → drop n here ≡ rest
      → drop p.index text ≡ here → AreLocated text ps rest → AreLocated text (p ∷ ps) z

-- The first fault of an end of the text is at this offset of the text. A comment that is not closed is at fault where it
-- begins.
pub data IsFirstFaultAt (f : TokenFault) (text : Text) (offset : ℕ) : Text → Type 0 where
  open_comment : {z : Text} → f ≡ bad_token → skip start z ≡ None → at text offset ≡ 40 → skip start (drop offset text) ≡ None → length (drop offset text) ≤ length z
      → IsFirstFaultAt f text offset z
  is_here : {b : ℕ} {z here : Text} → skip start z ≡ Some (b ∷ here) → front (b ∷ here) ≡ Err f → drop offset text ≡ b ∷ here → IsFirstFaultAt f text offset z
  is_later : {t : Token} {n : ℕ} {z here rest : Text} → skip start z ≡ Some here → front here ≡ Ok (t, n) → drop n here ≡ rest → IsFirstFaultAt f text offset rest
      → IsFirstFaultAt f text offset z

-- the tokens are those of some end of the text
pub record IsLocatedEnd (text : Text) (ps : List Located) : Type 0 where
  pub rest : Text
  pub located : AreLocated text ps rest

-- the last index between comments: this one, or the one before
abbrev pub begun : BlankState → ℕ → ℕ → ℕ
begun Between i before = i
begun Opening i before = before
begun Inside i before = before
begun Closing i before = before
begun Line i before = before

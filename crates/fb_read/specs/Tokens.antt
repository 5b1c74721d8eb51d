-- The tokens of a text (this project's profile): at each offset the longest one, with blanks and comments between them.
use Rattle.std.specs.Prelude.{◌≡◌, ℕ, ◌&&◌, if◌then◌else◌, ◌==◌, List, [], ◌∷◌, map, drop, Some, None, Ok, Err}
use Rattle.fb_read.specs.declared.token.Token.{Token}
use Rattle.fb_read.specs.declared.token.Located.{Located}
use Rattle.fb_read.specs.Blank.{Text, at, skip, start}
use Rattle.fb_read.specs.Front.{TokenFault, bad_token, front}

abbrev pub Tokens : Type 0
Tokens = List Token

abbrev pub tokens_of : List Located → Tokens
tokens_of = map (λ p. p.token)

-- what follows one leading byte order mark
abbrev pub after_mark : Text → Text
after_mark z = if at z 0 == 239 && (at z 1 == 187 && at z 2 == 191) then drop 3 z else z

pub data AreTokens : Tokens → Text → Type 0 where
  no_more : {z : Text} → skip start z ≡ Some [] → AreTokens [] z
  then_token : {t : Token} {n : ℕ} {ts : Tokens} {z here rest : Text} → skip start z ≡ Some here → front here ≡ Ok (t, n) → drop n here ≡ rest
      → AreTokens ts rest → AreTokens (t ∷ ts) z

-- the first offset at which a text continues with no token
pub data IsFirstFault (f : TokenFault) : Text → Type 0 where
  open_comment : {z : Text} → f ≡ bad_token → skip start z ≡ None → IsFirstFault f z
  is_here : {b : ℕ} {z here : Text} → skip start z ≡ Some (b ∷ here) → front (b ∷ here) ≡ Err f → IsFirstFault f z
  is_later : {t : Token} {n : ℕ} {z here rest : Text} → skip start z ≡ Some here → front here ≡ Ok (t, n) → drop n here ≡ rest
      → IsFirstFault f rest → IsFirstFault f z

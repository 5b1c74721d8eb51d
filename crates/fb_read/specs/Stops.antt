-- Where the reader stops, no library goes on (this project's own).
use Rattle.std.specs.Prelude.{◌≡◌, true, [], ◌∷◌, ◌++◌}
use Rattle.fb_types.specs.declared.library.Library.{Library}
use Rattle.fb_read.specs.declared.token.Token.{Token}
use Rattle.fb_read.specs.Tokens.{Tokens}
use Rattle.fb_read.specs.BlocksGrammar.{IsLibrary}
use Rattle.fb_read.specs.Fits.{fits_library}

-- No library begins with these tokens, whatever nests.
abbrev pub BeginsNone : Tokens → Type 0
BeginsNone front = (x : Library) (more : Tokens) → IsLibrary x (front ++ more) [] → ⊥

-- No library that keeps the limit of nesting begins with these tokens.
abbrev pub BeginsNoneThatFits : Tokens → Type 0
BeginsNoneThatFits front = (x : Library) (more : Tokens) → IsLibrary x (front ++ more) [] → fits_library x ≡ true → ⊥

-- These tokens end with the token at which they are refused, and no library begins with them.
pub record IsRefusedToken (t : Token) (left ts : Tokens) : Type 0 where
  pub before : Tokens
  pub joined : before ++ t ∷ left ≡ ts
  pub none : BeginsNone (before ++ t ∷ [])

-- The last of these tokens are left. No library begins with those up to the first that is left. If none is left, they
-- are those of no library.
abbrev pub Stops : Tokens → Tokens → Type 0
Stops [] ts = (x : Library) → IsLibrary x ts [] → ⊥
Stops (t ∷ left) ts = IsRefusedToken t left ts

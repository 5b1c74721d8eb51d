-- What the rules of the grammar are made of: each relation says what a token list begins with, and which tokens are left
-- after it (this project's profile, in the manner of IEC 61499-1, Annex B).
use Rattle.std.specs.Prelude.{◌≡◌, ℕ, ℤ, List, [], ◌∷◌, Some}
use Rattle.fb_types.specs.Names.{Name}
use Rattle.fb_types.specs.declared.value.Ty.{Ty}
use Rattle.fb_read.specs.declared.token.Mark.{Mark}
use Rattle.fb_read.specs.declared.token.Mark.TheVariants as mark
use Rattle.fb_read.specs.declared.token.Token.TheVariants as token
use Rattle.fb_read.specs.Tokens.{Tokens}
use Rattle.fb_read.specs.Parser.{ty_of}

-- a keyword or a sign
pub data IsMark (k : Mark) : Tokens → Tokens → Type 0 where
  is_mark : {rest : Tokens} → IsMark k (token.Mark k ∷ rest) rest

pub data IsName : Name → Tokens → Tokens → Type 0 where
  is_name : {name : Name} {rest : Tokens} → IsName name (token.Name name ∷ rest) rest

pub data IsWhole : ℕ → Tokens → Tokens → Type 0 where
  is_whole : {n : ℕ} {rest : Tokens} → IsWhole n (token.Whole n ∷ rest) rest

pub data IsTime : ℤ → Tokens → Tokens → Type 0 where
  is_time : {ticks : ℤ} {rest : Tokens} → IsTime ticks (token.Time ticks ∷ rest) rest

-- one of BOOL, SINT, INT, DINT, LINT, USINT, UINT, UDINT, ULINT and TIME
pub data IsType : Ty → Tokens → Tokens → Type 0 where
  is_type : {k : Mark} {t : Ty} {ts rest : Tokens} → ty_of k ≡ Some t → IsMark k ts rest → IsType t ts rest

module _ {A : Type 0} (IsItem : A → Tokens → Tokens → Type 0) where
  -- { item } end
  pub data AreMany (end : Mark) : List A → Tokens → Tokens → Type 0 where
    no_more : {ts rest : Tokens} → IsMark end ts rest → AreMany end [] ts rest
    one_more : {x : A} {xs : List A} {ts mid rest : Tokens} → IsItem x ts mid → AreMany end xs mid rest → AreMany end (x ∷ xs) ts rest

  -- item { "," item }
  pub data AreSeparated : List A → Tokens → Tokens → Type 0 where
    last : {x : A} {ts rest : Tokens} → IsItem x ts rest → AreSeparated (x ∷ []) ts rest
    and_next : {x : A} {xs : List A} {ts before following rest : Tokens} → IsItem x ts before → IsMark mark.Comma before following
        → AreSeparated xs following rest → AreSeparated (x ∷ xs) ts rest

  -- { item }
  pub data AreAll : List A → Tokens → Tokens → Type 0 where
    none : {ts : Tokens} → AreAll [] ts ts
    and_more : {x : A} {xs : List A} {ts mid rest : Tokens} → IsItem x ts mid → AreAll xs mid rest → AreAll (x ∷ xs) ts rest

  -- [ begin { item } end ]
  pub data IsSection (begin end : Mark) : List A → Tokens → Tokens → Type 0 where
    no_section : {ts : Tokens} → IsSection begin end [] ts ts
    is_section : {xs : List A} {ts a rest : Tokens} → IsMark begin ts a → AreMany end xs a rest → IsSection begin end xs ts rest

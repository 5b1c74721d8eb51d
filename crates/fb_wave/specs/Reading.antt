-- What is read of a line of a trace: numbers and values in the form in which a trace has them (this project's profile).
use Rattle.std.specs.Prelude.{◌≡◌, ℕ, suc, ℤ, pos, negsuc, ◌+◌, ◌-◌, ◌*◌, ◌^◌, ◌<◌, ◌≤◌, List, [], ◌∷◌, ◌++◌, Bool, true, ◌&&◌, map, length, decimal, codes, unwrap_or, slice_get}
use Rattle.fb_types.specs.Blocks.{variable_names}
use Rattle.fb_types.specs.Names.{Name}
use Rattle.fb_types.specs.Numbers.{pair_up}
use Rattle.fb_types.specs.Text.{value_text, values_text}
use Rattle.fb_types.specs.Values.{fits}
use Rattle.fb_types.specs.declared.library.Variable.{Variable}
use Rattle.fb_types.specs.declared.value.Ty.{Ty}
use Rattle.fb_types.specs.declared.value.Ty.TheVariants.{Bool as Boolean}
use Rattle.fb_types.specs.declared.value.Value.{Value}
use Rattle.fb_types.specs.declared.value.Value.TheVariants as value
use Rattle.fb_wave.specs.Words.{is_ended}

-- ---- Numbers

-- a digit after the digits of a number
pub record IsGrown (number byte grown : ℕ) : Type 0 where
  pub low : 48 ≤ byte
  pub high : byte < 58
  pub is : grown ≡ number * 10 + (byte - 48)
  pub fits : grown < 2 ^ 128

-- a number below 2^128 that has no 64 bits
pub record IsWide (number : ℕ) : Type 0 where
  pub low : 2 ^ 64 ≤ number
  pub high : number < 2 ^ 128

-- a number and a blank
abbrev pub number_text : ℕ → List ℕ
number_text n = decimal n ++ codes " "

-- No number below a bound is the whole text.
abbrev pub IsNoNumber : (bound : ℕ) → List ℕ → Type 0
IsNoNumber bound text = (n : ℕ) → n < bound → text ≡ decimal n → ⊥

-- The text begins with no number below a bound that a blank ends.
abbrev pub HasNoNumber : (bound : ℕ) → List ℕ → Type 0
HasNoNumber bound text = (n : ℕ) (rest : List ℕ) → n < bound → text ≡ number_text n ++ rest → ⊥

-- ---- Values

-- numbers below 2^64 in magnitude, which those of every type are
abbrev pub IsSmall : ℤ → Type 0
IsSmall (pos n) = n < 2 ^ 64
IsSmall (negsuc n) = suc n < 2 ^ 64

abbrev pub IsSmallValue : Value → Type 0
IsSmallValue (value.Bool b) = Unit {0}
IsSmallValue (value.Whole z) = IsSmall z

-- The text is that of such a number, or of such a value.
pub record IsTextOfWhole (number : ℤ) (text : List ℕ) : Type 0 where
  pub small : IsSmall number
  pub is : text ≡ value_text (value.Whole number)

pub record IsTextOfValue (v : Value) (text : List ℕ) : Type 0 where
  pub small : IsSmallValue v
  pub is : text ≡ value_text v

-- The text has no digits of a number above 0.
abbrev pub HasNoDigits : List ℕ → Type 0
HasNoDigits text = (n : ℕ) → suc n < 2 ^ 64 → text ≡ decimal (suc n) → ⊥

-- No such number is the whole text, no truth value, and no such value.
abbrev pub IsNoWhole : List ℕ → Type 0
IsNoWhole text = (z : ℤ) → IsSmall z → text ≡ value_text (value.Whole z) → ⊥

abbrev pub IsNoTruth : List ℕ → Type 0
IsNoTruth text = (b : Bool) → text ≡ value_text (value.Bool b) → ⊥

abbrev pub IsNone : List ℕ → Type 0
IsNone text = (v : Value) → IsSmallValue v → text ≡ value_text v → ⊥

-- No value of a type is the whole text.
abbrev pub IsNoValue : Ty → List ℕ → Type 0
IsNoValue ty text = (v : Value) → fits ty v ≡ true → text ≡ value_text v → ⊥

-- a variable with its value
abbrev pub binding_text : Name → Value → List ℕ
binding_text n v = codes " " ++ n ++ codes "=" ++ value_text v

-- A text begins with a variable and a value of its type, after which a word ends.
pub record IsBound (name : Name) (ty : Ty) (text : List ℕ) (value : Value) (rest : List ℕ) : Type 0 where
  pub parts : text ≡ binding_text name value ++ rest
  pub typed : fits ty value ≡ true
  pub ended : is_ended rest ≡ true

abbrev pub IsUnbound : Name → Ty → List ℕ → Type 0
IsUnbound n t text = (v : Value) (rest : List ℕ) → IsBound n t text v rest → ⊥

-- the name and the type of the variable at an index
abbrev pub name_at : List Variable → ℕ → Name
name_at vs k = unwrap_or (slice_get (variable_names vs) k) []

abbrev pub type_at : List Variable → ℕ → Ty
type_at vs k = unwrap_or (slice_get (map (λ v. v.ty) vs) k) Boolean

-- each value is one of the type at its index
abbrev pub fit_each : List Ty → List Value → Bool
fit_each [] vs = true
fit_each (t ∷ ts) [] = true
fit_each (t ∷ ts) (v ∷ vs) = fits t v && fit_each ts vs

-- A text is that of a value for each of the variables at some indexes, and a line feed.
pub record AreRead (variables : List Variable) (indexes : List ℕ) (text : List ℕ) (values : List Value) : Type 0 where
  pub counted : length values ≡ length indexes
  pub typed : fit_each (map (type_at variables) indexes) values ≡ true
  pub parts : text ≡ values_text (pair_up (map (name_at variables) indexes) values) ++ 10 ∷ []

abbrev pub AreUnread : List Variable → List ℕ → List ℕ → Type 0
AreUnread vs ks text = (values : List Value) → AreRead vs ks text values → ⊥

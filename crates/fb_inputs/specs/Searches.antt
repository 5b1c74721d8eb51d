-- What searches find (this project's own).
use Rattle.std.specs.Prelude.{◌<◌, ℕ, Option, MatchOption}
use Rattle.fb_read.specs.declared.token.Span.{Span}
use Rattle.fb_inputs.specs.Positions.{stepped}

-- there is none of these
abbrev pub HasNone : {A : Type 0} → (A → Type 0) → Type 0
HasNone {A} P = (x : A) → P x → ⊥

-- The search finds one of these. It finds nothing only where there is none.
abbrev pub FindsOne : {A : Type 0} → Option A → (A → Type 0) → Type 0
FindsOne {A} found P = MatchOption found ((x : A) → P x → ⊥) P

-- The bytes are at the nearest position that has any: this many steps around the one that is asked for, and no fewer.
pub record IsNearest {P : Type 0} (is_at : P → Span → Type 0) (around : P → P) (position : P) (span : Span) : Type 0 where
  pub steps : ℕ
  pub here : is_at (stepped around steps position) span
  pub nearer : (k : ℕ) → k < steps → (other : Span) → is_at (stepped around k position) other → ⊥

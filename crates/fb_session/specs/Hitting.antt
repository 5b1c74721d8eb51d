-- The lines that breaks are for (this project's profile).
use Rattle.std.specs.Prelude.{◌≡◌, ◌⊎◌, ◌≤◌, ◌∷◌, ℕ, nat_lt, if◌then◌else◌, true, List, [], Option, Some, None}
use Rattle.fb_types.specs.Machines.{Each}
use Rattle.fb_types.specs.Simulation.{Taken}
use Rattle.fb_types.specs.States.{Line}
use Rattle.fb_types.specs.Systems.{System}
use Rattle.fb_types.specs.Text.{line_text}
use Rattle.fb_types.specs.declared.run.Form.TheVariants.{One}
use Rattle.fb_expect.specs.Events.{Event, IsLine}
use Rattle.fb_expect.specs.Patterns as patterns
use Rattle.fb_session.specs.declared.breaks.Break.{Break}

-- A break is for a line: the text of the line in form one, as traces are read, is that of an event that meets the pattern.
pub record IsFor (sys : System) (l : Line) (b : Break) : Type 0 where
  pub event : Event
  pub is_line : IsLine One (line_text One sys l) event
  pub meets : patterns.meets b.pattern event ≡ true

-- it holds of one of the elements
abbrev pub AnyOf : {X : Type 0} → (X → Type 0) → List X → Type 0
AnyOf P [] = ⊥
AnyOf P (x ∷ xs) = P x ⊎ AnyOf P xs

-- a break is for one of these lines
abbrev pub IsForAny : System → List Line → Break → Type 0
IsForAny sys ls b = AnyOf (λ l. IsFor sys l b) ls

-- The least number of the breaks of which something holds; none if it holds of none.
abbrev pub IsLeastOf : (Break → Type 0) → List Break → Option ℕ → Type 0
IsLeastOf P bs None = Each (λ b. P b → ⊥) bs
IsLeastOf P bs (Some n) = AnyOf (λ b. P b × (b.number ≡ n)) bs × Each (λ b. P b → n ≤ b.number) bs

-- the least number of the breaks that are for one of these lines
abbrev pub IsHitBy : System → List Break → List Line → Option ℕ → Type 0
IsHitBy sys bs ls number = IsLeastOf (IsForAny sys ls) bs number

-- no break is for a line of one of these events
abbrev pub PassBreaks : System → List Break → List Taken → Type 0
PassBreaks sys bs ts = Each (λ t. IsHitBy sys bs t.effect.lines None) ts

-- the lesser of two numbers, if they are there
abbrev pub lesser : Option ℕ → Option ℕ → Option ℕ
lesser None b = b
lesser (Some a) None = Some a
lesser (Some a) (Some b) = if nat_lt b a then Some b else Some a

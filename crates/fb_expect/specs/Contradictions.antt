-- Whether some value meets all conditions of a pattern on a variable (docs/FORMATS.md, "Rules over traces"; this project's own).
use Rattle.std.specs.Prelude.{◌≡◌, ℕ, ◌^◌, ℤ, pos, negsuc, neg_ℤ, ◌≤ℤ◌, Bool, true, false, not, ◌&&◌, ◌||◌, List, Option}
use Rattle.std.specs.List.{find, list_all}
use Rattle.fb_types.specs.Names.{Name, same_name}
use Rattle.fb_types.specs.declared.value.Value.{Value}
use Rattle.fb_types.specs.declared.value.Value.TheVariants as value
use Rattle.fb_expect.specs.Paired.{some_below}
use Rattle.fb_expect.specs.Patterns.{compares}
use Rattle.fb_expect.specs.declared.contradiction.Span.{Span}
use Rattle.fb_expect.specs.declared.pattern.Comparison.{Comparison}
use Rattle.fb_expect.specs.declared.pattern.Condition.{Condition}
use Rattle.fb_expect.specs.declared.pattern.Operand.{Operand}
use Rattle.fb_expect.specs.declared.pattern.Operand.TheVariants as operand

-- numbers of lines are below this in magnitude
unfoldable pub magnitudes : ℕ
magnitudes = 2 ^ 64

-- whether some value that a line can have passes a test
unfoldable pub some_value : (Value → Bool) → Bool
some_value test =
    (test (value.Bool true) || test (value.Bool false))
    || some_below (λ n. test (value.Whole (pos n)) || test (value.Whole (neg_ℤ (pos n)))) magnitudes

-- whether a value compares so with what a variable is compared with: another value, or the variable itself. Another variable asks nothing of
-- it alone.
abbrev pub suits_operand : (variable : Name) → Comparison → Operand → Value → Bool
suits_operand variable c (operand.Value required) v = compares c v required
suits_operand variable c (operand.Variable other) v = not (same_name other variable) || compares c v v

-- whether a value of a variable suits a condition
abbrev pub suits : (variable : Name) → Value → Condition → Bool
suits variable v c = not (same_name c.variable variable) || suits_operand variable c.comparison c.operand v

-- whether some value of a variable suits all conditions
unfoldable pub has_value : List Condition → (variable : Name) → Bool
has_value cs variable = some_value (λ v. list_all (suits variable v) cs)

-- the first condition on a variable of which no value suits all
abbrev pub impossible : List Condition → Option Condition
impossible cs = find (λ c. not (has_value cs c.variable)) cs

-- ---- Numbers

-- all numbers of lines
abbrev pub numbers : Span
numbers = record { least = negsuc 18446744073709551614; most = pos 18446744073709551615 }

-- a number is within a span
abbrev pub IsIn : Span → ℤ → Type 0
IsIn s z = (s.least ≤ℤ z) × (z ≤ℤ s.most)

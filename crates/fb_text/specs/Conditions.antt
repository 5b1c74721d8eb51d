-- Conditions of transitions, as they are written (IEC 61499-1, 5.2.1.2).
use Rattle.std.specs.Prelude.{ℕ, List, ◌++◌, Option, Some, None, codes}
use Rattle.fb_types.specs.Names.{Name}
use Rattle.fb_types.specs.declared.text.Expr.{Expr}
use Rattle.fb_text.specs.Expressions.{expression_text}

abbrev pub guard_text : Expr → List ℕ
guard_text g = codes "[" ++ expression_text g ++ codes "]"

-- a condition as it is written
abbrev pub condition_text : Option Name → Option Expr → List ℕ
condition_text None None = codes "1"
condition_text (Some e) None = e
condition_text None (Some g) = guard_text g
condition_text (Some e) (Some g) = e ++ codes " " ++ guard_text g

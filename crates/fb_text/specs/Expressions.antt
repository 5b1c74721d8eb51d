-- Expressions as texts, as they were written but for blanks, letter case and the forms of literals (IEC 61131-3, 7.3.2).
use Rattle.std.specs.Prelude.{ℕ, Bool, true, false, List, [], ◌∷◌, ◌++◌, codes}
use Rattle.fb_types.specs.Text.{value_text}
use Rattle.fb_types.specs.declared.text.UnaryOperator.{UnaryOperator}
use Rattle.fb_types.specs.declared.text.UnaryOperator.TheVariants as unary
use Rattle.fb_types.specs.declared.text.BinaryOperator.{BinaryOperator}
use Rattle.fb_types.specs.declared.text.BinaryOperator.TheVariants as binary
use Rattle.fb_types.specs.declared.text.Expr as read
use Rattle.fb_types.specs.declared.text.Expr.TheOpen.{Expr-F}
use Rattle.fb_types.specs.declared.value.Value.TheVariants as value

abbrev pub unary_text : UnaryOperator → List ℕ
unary_text unary.Negate = codes "-"
unary_text unary.Not = codes "NOT "

abbrev pub binary_text : BinaryOperator → List ℕ
binary_text binary.Or = codes " OR "
binary_text binary.Xor = codes " XOR "
binary_text binary.And = codes " AND "
binary_text binary.Equal = codes " = "
binary_text binary.NotEqual = codes " <> "
binary_text binary.Less = codes " < "
binary_text binary.Greater = codes " > "
binary_text binary.LessOrEqual = codes " <= "
binary_text binary.GreaterOrEqual = codes " >= "
binary_text binary.Add = codes " + "
binary_text binary.Subtract = codes " - "
binary_text binary.Multiply = codes " * "
binary_text binary.Divide = codes " / "
binary_text binary.Modulo = codes " MOD "

-- what comes before an argument: nothing before the first
abbrev pub separator : (first : Bool) → List ℕ
separator true = []
separator false = codes ", "

-- arguments, with commas between them
abbrev pub arguments_text : (first : Bool) → List (List ℕ) → List ℕ
arguments_text first [] = []
arguments_text first (a ∷ others) = separator first ++ a ++ arguments_text false others

-- one node that was read, with the texts of its parts
abbrev pub expression_step : Expr-F (List ℕ) → List ℕ
expression_step (Expr-F.Whole z) = value_text (value.Whole z)
expression_step (Expr-F.Truth b) = value_text (value.Bool b)
expression_step (Expr-F.Variable n) = n
expression_step (Expr-F.Group e) = codes "(" ++ e ++ codes ")"
expression_step (Expr-F.Unary o e) = unary_text o ++ e
expression_step (Expr-F.Binary o e f) = e ++ binary_text o ++ f
expression_step (Expr-F.Call f args) = f ++ codes "(" ++ arguments_text true args ++ codes ")"

abbrev pub expression_text : read.Expr → List ℕ
expression_text = read.fold-Expr (List ℕ) expression_step

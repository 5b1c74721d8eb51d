-- How deep expressions and statements nest, and the limit (this project's profile).
use Rattle.std.specs.Prelude.{ℕ, suc, max, Bool, ◌&&◌, nat_le, ◌≤◌, List, [], ◌∷◌, map, Option, Some, None}
use Rattle.fb_types.specs.declared.text.Expr.{Expr, fold-Expr}
use Rattle.fb_types.specs.declared.text.Expr.TheOpen.{Expr-F}
use Rattle.fb_types.specs.declared.text.Stmt.{Stmt, fold-Stmt}
use Rattle.fb_types.specs.declared.text.Stmt.TheOpen.{Stmt-F, Branch-F, Choice-F}
use Rattle.fb_types.specs.declared.text.Branch.{Branch, fold-Branch}
use Rattle.fb_types.specs.declared.text.Choice.{Choice, fold-Choice}
use Rattle.fb_types.specs.declared.text.Body.{Body}

-- how deep an expression and a statement may nest
abbrev pub most_nesting : ℕ
most_nesting = 64

-- the greatest of all
abbrev pub deepest : List ℕ → ℕ
deepest [] = 0
deepest (n ∷ ns) = max n (deepest ns)

-- 1 without parts, and one more than its deepest part with parts
abbrev pub nesting_step : Expr-F ℕ → ℕ
nesting_step (Expr-F.Whole n) = 1
nesting_step (Expr-F.Truth b) = 1
nesting_step (Expr-F.Variable name) = 1
nesting_step (Expr-F.Group n) = suc n
nesting_step (Expr-F.Unary op n) = suc n
nesting_step (Expr-F.Binary op m n) = suc (max m n)
nesting_step (Expr-F.Call name ns) = suc (deepest ns)

unfoldable pub nesting : Expr → ℕ
nesting = fold-Expr ℕ nesting_step

-- 1 without statements, and one more than the deepest among them
abbrev pub statement_step : Stmt-F ℕ ℕ ℕ → ℕ
statement_step Stmt-F.Empty = 1
statement_step Stmt-F.Exit = 1
statement_step Stmt-F.Return = 1
statement_step (Stmt-F.Assign name x) = 1
statement_step (Stmt-F.If choices others) = suc (max (deepest choices) (deepest others))
statement_step (Stmt-F.Case x branches others) = suc (max (deepest branches) (deepest others))
statement_step (Stmt-F.For name start end step body) = suc (deepest body)
statement_step (Stmt-F.While x body) = suc (deepest body)
statement_step (Stmt-F.Repeat body x) = suc (deepest body)

abbrev pub branch_step : Branch-F ℕ ℕ ℕ → ℕ
branch_step b = deepest b.body

abbrev pub choice_step : Choice-F ℕ ℕ ℕ → ℕ
choice_step c = deepest c.body

unfoldable pub statement_nesting : Stmt → ℕ
statement_nesting = fold-Stmt ℕ ℕ ℕ statement_step branch_step choice_step

-- the deepest statement after labels
unfoldable pub branch_nesting : Branch → ℕ
branch_nesting = fold-Branch ℕ ℕ ℕ statement_step branch_step choice_step

-- the deepest statement after a condition
unfoldable pub choice_nesting : Choice → ℕ
choice_nesting = fold-Choice ℕ ℕ ℕ statement_step branch_step choice_step

abbrev pub by_nesting : Option Expr → ℕ
by_nesting None = 0
by_nesting (Some x) = nesting x

-- the deepest of the expressions in a statement
abbrev pub inside_step : Stmt-F ℕ ℕ ℕ → ℕ
inside_step Stmt-F.Empty = 0
inside_step Stmt-F.Exit = 0
inside_step Stmt-F.Return = 0
inside_step (Stmt-F.Assign name x) = nesting x
inside_step (Stmt-F.If choices others) = max (deepest choices) (deepest others)
inside_step (Stmt-F.Case x branches others) = max (nesting x) (max (deepest branches) (deepest others))
inside_step (Stmt-F.For name start end step body) = max (nesting start) (max (nesting end) (max (by_nesting step) (deepest body)))
inside_step (Stmt-F.While x body) = max (nesting x) (deepest body)
inside_step (Stmt-F.Repeat body x) = max (deepest body) (nesting x)

abbrev pub branch_inside_step : Branch-F ℕ ℕ ℕ → ℕ
branch_inside_step b = deepest b.body

abbrev pub choice_inside_step : Choice-F ℕ ℕ ℕ → ℕ
choice_inside_step c = max (nesting c.condition) (deepest c.body)

-- how deep the deepest expression in a statement nests, and 0 if there is none
unfoldable pub expression_nesting : Stmt → ℕ
expression_nesting = fold-Stmt ℕ ℕ ℕ inside_step branch_inside_step choice_inside_step

unfoldable pub branch_expression_nesting : Branch → ℕ
branch_expression_nesting = fold-Branch ℕ ℕ ℕ inside_step branch_inside_step choice_inside_step

unfoldable pub choice_expression_nesting : Choice → ℕ
choice_expression_nesting = fold-Choice ℕ ℕ ℕ inside_step branch_inside_step choice_inside_step

-- An expression keeps the limit.
abbrev pub ExpressionFits : Expr → Type 0
ExpressionFits x = nesting x ≤ most_nesting

-- The statements of an algorithm keep the limit, and the expressions in them do.
pub record BodyFits (b : Body) : Type 0 where
  pub statements : deepest (map statement_nesting b.statements) ≤ most_nesting
  pub expressions : deepest (map expression_nesting b.statements) ≤ most_nesting

-- whether they do
abbrev pub fits_expression : Expr → Bool
fits_expression x = nat_le (nesting x) most_nesting

abbrev pub fits_body : Body → Bool
fits_body b = nat_le (deepest (map statement_nesting b.statements)) most_nesting && nat_le (deepest (map expression_nesting b.statements)) most_nesting

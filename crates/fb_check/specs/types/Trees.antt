-- What the parts of statements say (IEC 61131-3, 7.3).
use Rattle.std.specs.Prelude.{List, map}
use Rattle.fb_types.specs.Syntax.{Exprs, exprs, Stmt, Stmts, stmts, stmt_of, stmt_step, branch_step, choice_step, expr_of, choices, branches, Choices, Branches}
use Rattle.fb_types.specs.Syntax as syntax
use Rattle.fb_types.specs.declared.text.Expr.{Expr}
use Rattle.fb_types.specs.declared.text.Label.{Label}
use Rattle.fb_types.specs.declared.text.Stmt as read_stmt
use Rattle.fb_types.specs.declared.text.Choice.{Choice, fold-Choice}
use Rattle.fb_types.specs.declared.text.Branch.{Branch, fold-Branch}

-- what IF or ELSIF says, and what the labels and statements of a CASE say
abbrev pub choice_of : Choice → syntax.Expr × Stmts
choice_of = fold-Choice Stmt (List Label × Stmts) (syntax.Expr × Stmts) stmt_step branch_step choice_step

abbrev pub branch_of : Branch → List Label × Stmts
branch_of = fold-Branch Stmt (List Label × Stmts) (syntax.Expr × Stmts) stmt_step branch_step choice_step

abbrev pub arguments_of : List Expr → Exprs
arguments_of es = exprs (map expr_of es)

abbrev pub all_of : List read_stmt.Stmt → Stmts
all_of ss = stmts (map stmt_of ss)

abbrev pub choices_of : List Choice → Choices
choices_of cs = choices (map choice_of cs)

abbrev pub branches_of : List Branch → Branches
branches_of bs = branches (map branch_of bs)

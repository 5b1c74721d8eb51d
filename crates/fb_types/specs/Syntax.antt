-- Expressions and statements of Structured Text (IEC 61131-3, 7.3), as the definitions use them: the trees that were
-- read, without the parentheses.
use Rattle.std.specs.Prelude.{ℤ, pos, List, [], ◌∷◌, map, Bool, Option, Some, None}
use Rattle.fb_types.specs.Names.{Name}
use Rattle.fb_types.specs.declared.text.UnaryOperator.{UnaryOperator}
use Rattle.fb_types.specs.declared.text.BinaryOperator.{BinaryOperator}
use Rattle.fb_types.specs.declared.text.Label.{Label}
use Rattle.fb_types.specs.declared.text.Body.{Body}
use Rattle.fb_types.specs.declared.text.Expr as read
use Rattle.fb_types.specs.declared.text.Expr.TheOpen.{Expr-F}
use Rattle.fb_types.specs.declared.text.Stmt as read_stmt
use Rattle.fb_types.specs.declared.text.Stmt.TheOpen.{Stmt-F, Branch-F, Choice-F}

mutual
  pub data Expr : Type 0 where
    Whole : ℤ → Expr
    Truth : Bool → Expr
    Variable : Name → Expr
    Unary : UnaryOperator → Expr → Expr
    Binary : BinaryOperator → Expr → Expr → Expr
    Call : Name → Exprs → Expr

  pub data Exprs : Type 0 where
    no_expr : Exprs
    then_exprs : Expr → Exprs → Exprs

mutual
  pub data Stmt : Type 0 where
    Empty : Stmt
    Exit : Stmt
    Return : Stmt
    Assign : Name → Expr → Stmt
    If : Choices → Stmts → Stmt
    Case : Expr → Branches → Stmts → Stmt
    For : Name → (start end step : Expr) → Stmts → Stmt
    While : Expr → Stmts → Stmt
    Repeat : Stmts → Expr → Stmt

  pub data Stmts : Type 0 where
    no_stmt : Stmts
    then_stmts : Stmt → Stmts → Stmts

  pub data Choices : Type 0 where
    no_choice : Choices
    then_choices : Expr → Stmts → Choices → Choices

  pub data Branches : Type 0 where
    no_branch : Branches
    then_branches : List Label → Stmts → Branches → Branches

abbrev pub exprs : List Expr → Exprs
exprs [] = no_expr
exprs (e ∷ es) = then_exprs e (exprs es)

-- one node that was read, with what its parts mean instead of them
abbrev pub expr_step : Expr-F Expr → Expr
expr_step (Expr-F.Whole z) = Whole z
expr_step (Expr-F.Truth b) = Truth b
expr_step (Expr-F.Variable n) = Variable n
expr_step (Expr-F.Group e) = e
expr_step (Expr-F.Unary o e) = Unary o e
expr_step (Expr-F.Binary o e f) = Binary o e f
expr_step (Expr-F.Call f args) = Call f (exprs args)

-- what an expression that was read means
abbrev pub expr_of : read.Expr → Expr
expr_of = read.fold-Expr Expr expr_step

-- a FOR without BY has the step 1
abbrev pub step_of : Option read.Expr → Expr
step_of None = Whole (pos 1)
step_of (Some e) = expr_of e

abbrev pub stmts : List Stmt → Stmts
stmts [] = no_stmt
stmts (s ∷ ss) = then_stmts s (stmts ss)

abbrev pub choices : List (Expr × Stmts) → Choices
choices [] = no_choice
choices (c ∷ cs) = then_choices c.0 c.1 (choices cs)

abbrev pub branches : List (List Label × Stmts) → Branches
branches [] = no_branch
branches (b ∷ bs) = then_branches b.0 b.1 (branches bs)

-- one statement that was read, with what its parts mean instead of them
abbrev pub stmt_step : Stmt-F Stmt (List Label × Stmts) (Expr × Stmts) → Stmt
stmt_step Stmt-F.Empty = Empty
stmt_step Stmt-F.Exit = Exit
stmt_step Stmt-F.Return = Return
stmt_step (Stmt-F.Assign n e) = Assign n (expr_of e)
stmt_step (Stmt-F.If cs others) = If (choices cs) (stmts others)
stmt_step (Stmt-F.Case e bs others) = Case (expr_of e) (branches bs) (stmts others)
stmt_step (Stmt-F.For n start end by body) = For n (expr_of start) (expr_of end) (step_of by) (stmts body)
stmt_step (Stmt-F.While e body) = While (expr_of e) (stmts body)
stmt_step (Stmt-F.Repeat body e) = Repeat (stmts body) (expr_of e)

abbrev pub branch_step : Branch-F Stmt (List Label × Stmts) (Expr × Stmts) → List Label × Stmts
branch_step b = (b.labels, stmts b.body)

abbrev pub choice_step : Choice-F Stmt (List Label × Stmts) (Expr × Stmts) → Expr × Stmts
choice_step c = (expr_of c.condition, stmts c.body)

-- what a statement that was read means
abbrev pub stmt_of : read_stmt.Stmt → Stmt
stmt_of = read_stmt.fold-Stmt Stmt (List Label × Stmts) (Expr × Stmts) stmt_step branch_step choice_step

-- the statements of an algorithm
abbrev pub body_of : Body → Stmts
body_of b = stmts (map stmt_of b.statements)

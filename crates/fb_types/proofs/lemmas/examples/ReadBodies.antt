-- What the algorithms of the worked examples mean.
use Rattle.fb_types.proofs.Common.{◌≡◌, sym, ap, subst, ◌∙◌, [], ◌∷◌, None, ℤ, pos, codes, Name, Binary, Stmt, Assign, For, Empty, no_stmt, then_stmts, expr_of, stmt_of, body_of, Types, Point, End, RunsBody, BinaryOperator, Stmt-F}
use Rattle.fb_types.specs.Syntax.{Expr, Whole, Variable, expr_step, stmt_step, branch_step, choice_step}
use Rattle.fb_types.specs.ExampleBodies.{whole_read, variable_read, binary_read, assignment_read, counting, doubling}
use Rattle.fb_types.specs.declared.text.BinaryOperator.TheVariants.{Multiply}
use Rattle.fb_types.specs.declared.text.Expr as read
use Rattle.fb_types.specs.declared.text.Expr.TheOpen.{Expr-F}
use Rattle.fb_types.specs.declared.text.Expr.TheFolds.{fold-roll-Expr}
use Rattle.fb_types.specs.declared.text.Stmt as read_stmt
use Rattle.fb_types.specs.declared.text.Stmt.TheViews.{roll-Stmt}
use Rattle.fb_types.specs.declared.text.Stmt.TheFolds.{fold-roll-Stmt}

says_whole : (z : ℤ) → expr_of (whole_read z) ≡ Whole z
says_whole z = fold-roll-Expr Expr expr_step (Expr-F.Whole z)

says_variable : (n : Name) → expr_of (variable_read n) ≡ Variable n
says_variable n = fold-roll-Expr Expr expr_step (Expr-F.Variable n)

says_binary : (o : BinaryOperator) (e f : read.Expr) → expr_of (binary_read o e f) ≡ Binary o (expr_of e) (expr_of f)
says_binary o e f = fold-roll-Expr Expr expr_step (Expr-F.Binary o e f)

says_assignment : (n : Name) (e : read.Expr) → stmt_of (assignment_read n e) ≡ Assign n (expr_of e)
says_assignment n e = fold-roll-Stmt Stmt _ _ stmt_step branch_step choice_step (Stmt-F.Assign n e)

says_empty : stmt_of (roll-Stmt Stmt-F.Empty) ≡ Empty
says_empty = fold-roll-Stmt Stmt _ _ stmt_step branch_step choice_step Stmt-F.Empty

pub says_counting : stmt_of counting ≡ For (codes "X") (Whole (pos 32766)) (Whole (pos 32767)) (Whole (pos 1)) (then_stmts Empty no_stmt)
says_counting =
    fold-roll-Stmt Stmt _ _ stmt_step branch_step choice_step
    (Stmt-F.For (codes "X") (whole_read (pos 32766)) (whole_read (pos 32767)) None (roll-Stmt Stmt-F.Empty ∷ []))
    ∙ (λ i. For (codes "X") (says_whole (pos 32766) i) (says_whole (pos 32767) i) (Whole (pos 1)) (then_stmts (says_empty i) no_stmt))

-- a run of what the statements mean is one of the body
pub as_read : (types : Types) (s : read_stmt.Stmt) (said : Stmt) → stmt_of s ≡ said → (p : Point) (e : End) (q : Point)
    → RunsBody types (then_stmts said no_stmt) p e q → RunsBody types (body_of (record { statements = s ∷ [] })) p e q
as_read types s said says p e q h = subst (λ t. RunsBody types (then_stmts t no_stmt) p e q) (sym says) h

pub says_doubling : stmt_of doubling ≡ Assign (codes "Y") (Binary Multiply (Whole (pos 2)) (Variable (codes "X")))
says_doubling =
    says_assignment (codes "Y") (binary_read Multiply (whole_read (pos 2)) (variable_read (codes "X")))
    ∙ (ap (Assign (codes "Y")) (says_binary Multiply (whole_read (pos 2)) (variable_read (codes "X"))
    ∙ (λ i. Binary Multiply (says_whole (pos 2) i) (says_variable (codes "X") i))))

-- an assignment of two whole numbers joined by an operator
pub says_sum : (n : Name) (o : BinaryOperator) (y z : ℤ)
    → stmt_of (assignment_read n (binary_read o (whole_read y) (whole_read z))) ≡ Assign n (Binary o (Whole y) (Whole z))
says_sum n o y z =
    says_assignment n (binary_read o (whole_read y) (whole_read z))
    ∙ (ap (Assign n) (says_binary o (whole_read y) (whole_read z) ∙ (λ i. Binary o (says_whole y i) (says_whole z i))))

-- What the expressions and statements that were read mean, each by its parts (IEC 61131-3, 7.3).
use Rattle.fb_types.proofs.Common.{◌≡◌, List, Option, refl, rules, Name, Binary, Assign, If, Case, For, While, Repeat, expr_of, step_of, stmt_of}
use Rattle.fb_types.specs.declared.text.BinaryOperator.{BinaryOperator}
use Rattle.fb_types.specs.declared.text.Expr.{Expr}
use Rattle.fb_types.specs.declared.text.UnaryOperator.{UnaryOperator}
use Rattle.fb_types.specs.declared.text.Branch.{Branch, out-Branch}
use Rattle.fb_types.specs.declared.text.Choice.{Choice, out-Choice}
use Rattle.fb_types.specs.Syntax.{Variable, Unary, Call}
use Rattle.fb_types.specs.declared.text.Expr as expr
use Rattle.fb_types.specs.declared.text.Expr.{fold-roll-Expr}
use Rattle.fb_types.specs.declared.text.Expr.TheVariants as expr_variants
use Rattle.fb_types.specs.declared.text.Stmt as read
use Rattle.fb_types.specs.declared.text.Stmt.{fold-roll-Stmt}
use Rattle.fb_types.specs.declared.text.Stmt.TheVariants as variants
use Rattle.fb_types.specs.declared.text.Branch.{fold_out-Branch}
use Rattle.fb_types.specs.declared.text.Choice.{fold_out-Choice}
use Rattle.fb_check.specs.types.Trees.{all_of, arguments_of, branch_of, branches_of, choice_of, choices_of}

pub variable_says : (n : Name) → expr_of (expr.Variable n) ≡ Variable n
variable_says n = rw (← expr_variants.rolls-Variable n) (rw fold-roll-Expr refl)

pub group_says : (e : Expr) → expr_of (expr.Group e) ≡ expr_of e
group_says e = rw (← expr_variants.rolls-Group e) (rw fold-roll-Expr refl)

pub unary_says : (o : UnaryOperator) (e : Expr) → expr_of (expr.Unary o e) ≡ Unary o (expr_of e)
unary_says o e = rw (← expr_variants.rolls-Unary o e) (rw fold-roll-Expr refl)

pub binary_says : (o : BinaryOperator) (e f : Expr) → expr_of (expr.Binary o e f) ≡ Binary o (expr_of e) (expr_of f)
binary_says o e f = rw (← expr_variants.rolls-Binary o e f) (rw fold-roll-Expr refl)

pub call_says : (f : Name) (es : List Expr) → expr_of (expr.Call f es) ≡ Call f (arguments_of es)
call_says f es = rw (← expr_variants.rolls-Call f es) (rw fold-roll-Expr refl)

pub choice_says : (c : Choice) → choice_of c ≡ (expr_of (out-Choice c).condition, all_of (out-Choice c).body)
choice_says c = search (rules, fold_out-Choice)

pub branch_says : (b : Branch) → branch_of b ≡ ((out-Branch b).labels, all_of (out-Branch b).body)
branch_says b = search (rules, fold_out-Branch)

pub assign_says : (n : Name) (e : Expr) → stmt_of (read.Assign n e) ≡ Assign n (expr_of e)
assign_says n e = rw (← variants.rolls-Assign n e) (rw fold-roll-Stmt refl)

pub if_says : (cs : List Choice) (others : List read.Stmt) → stmt_of (read.If cs others) ≡ If (choices_of cs) (all_of others)
if_says cs others = rw (← variants.rolls-If cs others) (rw fold-roll-Stmt refl)

pub case_says : (e : Expr) (bs : List Branch) (others : List read.Stmt) → stmt_of (read.Case e bs others) ≡ Case (expr_of e) (branches_of bs) (all_of others)
case_says e bs others = rw (← variants.rolls-Case e bs others) (rw fold-roll-Stmt refl)

pub for_says :
    (n : Name) (a b : Expr) (c : Option Expr) (body : List read.Stmt) → stmt_of (read.For n a b c body) ≡ For n (expr_of a) (expr_of b) (step_of c) (all_of body)
for_says n a b c body = rw (← variants.rolls-For n a b c body) (rw fold-roll-Stmt refl)

pub while_says : (c : Expr) (body : List read.Stmt) → stmt_of (read.While c body) ≡ While (expr_of c) (all_of body)
while_says c body = rw (← variants.rolls-While c body) (rw fold-roll-Stmt refl)

pub repeat_says : (body : List read.Stmt) (c : Expr) → stmt_of (read.Repeat body c) ≡ Repeat (all_of body) (expr_of c)
repeat_says body c = rw (← variants.rolls-Repeat body c) (rw fold-roll-Stmt refl)

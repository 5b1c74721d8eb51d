-- How deep each kind of statement nests, and the expressions in it.
use Rattle.fb_types.proofs.Common.{◌≡◌, ℕ, suc, ◌≤◌, max, List, Option, map, arith, rules, Name}
use Rattle.fb_types.specs.declared.text.Expr.{Expr}
use Rattle.fb_types.specs.declared.text.Stmt.TheOpen.{Stmt-F}
use Rattle.fb_types.specs.declared.text.Choice.{Choice}
use Rattle.fb_types.specs.declared.text.Branch.{Branch}
use Rattle.fb_types.specs.declared.text.Label.{Label}
use Rattle.fb_types.specs.declared.text.Stmt.{Stmt, the_lemmas, fold_out-Stmt}
use Rattle.fb_types.specs.declared.text.Stmt.TheVariants as s
use Rattle.fb_read.specs.Nesting.{nesting, by_nesting, deepest, statement_step, statement_nesting, branch_nesting, choice_nesting, expression_nesting, branch_expression_nesting, choice_expression_nesting}
use Rattle.fb_read.specs.StatementNodes.{choice_of, branch_of}

pub nesting-Empty : statement_nesting s.Empty ≡ 1
unfolding statement_nesting
nesting-Empty = search (rules, the_lemmas)

pub nesting-Exit : statement_nesting s.Exit ≡ 1
unfolding statement_nesting
nesting-Exit = search (rules, the_lemmas)

pub nesting-Return : statement_nesting s.Return ≡ 1
unfolding statement_nesting
nesting-Return = search (rules, the_lemmas)

pub nesting-Assign : (n : Name) (x : Expr) → statement_nesting (s.Assign n x) ≡ 1
unfolding statement_nesting
nesting-Assign n x = search (rules, the_lemmas)

pub nesting-If : (xs : List Choice) (ys : List Stmt) → statement_nesting (s.If xs ys) ≡ suc (max (deepest (map choice_nesting xs)) (deepest (map statement_nesting ys)))
unfolding statement_nesting choice_nesting
nesting-If xs ys = search (rules, the_lemmas)

pub nesting-Case : (x : Expr) (xs : List Branch) (ys : List Stmt) → statement_nesting (s.Case x xs ys) ≡ suc (max (deepest (map branch_nesting xs)) (deepest (map statement_nesting ys)))
unfolding statement_nesting branch_nesting
nesting-Case x xs ys = search (rules, the_lemmas)

pub nesting-For : (n : Name) (x y : Expr) (z : Option Expr) (xs : List Stmt) → statement_nesting (s.For n x y z xs) ≡ suc (deepest (map statement_nesting xs))
unfolding statement_nesting
nesting-For n x y z xs = search (rules, the_lemmas)

pub nesting-While : (x : Expr) (xs : List Stmt) → statement_nesting (s.While x xs) ≡ suc (deepest (map statement_nesting xs))
unfolding statement_nesting
nesting-While x xs = search (rules, the_lemmas)

pub nesting-Repeat : (xs : List Stmt) (x : Expr) → statement_nesting (s.Repeat xs x) ≡ suc (deepest (map statement_nesting xs))
unfolding statement_nesting
nesting-Repeat xs x = search (rules, the_lemmas)

pub nesting-choice : (x : Expr) (xs : List Stmt) → choice_nesting (choice_of x xs) ≡ deepest (map statement_nesting xs)
unfolding statement_nesting choice_nesting
nesting-choice x xs = search (rules, the_lemmas)

pub nesting-branch : (ls : List Label) (xs : List Stmt) → branch_nesting (branch_of ls xs) ≡ deepest (map statement_nesting xs)
unfolding statement_nesting branch_nesting
nesting-branch ls xs = search (rules, the_lemmas)

positive_step : (l : Stmt-F ℕ ℕ ℕ) → 1 ≤ statement_step l
positive_step Stmt-F.Empty = omega arith
positive_step Stmt-F.Exit = omega arith
positive_step Stmt-F.Return = omega arith
positive_step (Stmt-F.Assign n x) = omega arith
positive_step (Stmt-F.If xs ys) = omega arith
positive_step (Stmt-F.Case x xs ys) = omega arith
positive_step (Stmt-F.For n x y z xs) = omega arith
positive_step (Stmt-F.While x xs) = omega arith
positive_step (Stmt-F.Repeat xs x) = omega arith

pub statement-positive : (x : Stmt) → 1 ≤ statement_nesting x
unfolding statement_nesting
statement-positive x = rw fold_out-Stmt (positive_step _)

pub inside-Empty : expression_nesting s.Empty ≡ 0
unfolding expression_nesting
inside-Empty = search (rules, the_lemmas)

pub inside-Exit : expression_nesting s.Exit ≡ 0
unfolding expression_nesting
inside-Exit = search (rules, the_lemmas)

pub inside-Return : expression_nesting s.Return ≡ 0
unfolding expression_nesting
inside-Return = search (rules, the_lemmas)

pub inside-Assign : (n : Name) (x : Expr) → expression_nesting (s.Assign n x) ≡ nesting x
unfolding expression_nesting
inside-Assign n x = search (rules, the_lemmas)

pub inside-If : (xs : List Choice) (ys : List Stmt) → expression_nesting (s.If xs ys) ≡ max (deepest (map choice_expression_nesting xs)) (deepest (map expression_nesting ys))
unfolding expression_nesting choice_expression_nesting
inside-If xs ys = search (rules, the_lemmas)

pub inside-Case : (x : Expr) (xs : List Branch) (ys : List Stmt)
    → expression_nesting (s.Case x xs ys) ≡ max (nesting x) (max (deepest (map branch_expression_nesting xs)) (deepest (map expression_nesting ys)))
unfolding expression_nesting branch_expression_nesting
inside-Case x xs ys = search (rules, the_lemmas)

pub inside-For : (n : Name) (x y : Expr) (z : Option Expr) (xs : List Stmt)
    → expression_nesting (s.For n x y z xs) ≡ max (nesting x) (max (nesting y) (max (by_nesting z) (deepest (map expression_nesting xs))))
unfolding expression_nesting
inside-For n x y z xs = search (rules, the_lemmas)

pub inside-While : (x : Expr) (xs : List Stmt) → expression_nesting (s.While x xs) ≡ max (nesting x) (deepest (map expression_nesting xs))
unfolding expression_nesting
inside-While x xs = search (rules, the_lemmas)

pub inside-Repeat : (xs : List Stmt) (x : Expr) → expression_nesting (s.Repeat xs x) ≡ max (deepest (map expression_nesting xs)) (nesting x)
unfolding expression_nesting
inside-Repeat xs x = search (rules, the_lemmas)

pub inside-choice : (x : Expr) (xs : List Stmt) → choice_expression_nesting (choice_of x xs) ≡ max (nesting x) (deepest (map expression_nesting xs))
unfolding expression_nesting choice_expression_nesting
inside-choice x xs = search (rules, the_lemmas)

pub inside-branch : (ls : List Label) (xs : List Stmt) → branch_expression_nesting (branch_of ls xs) ≡ deepest (map expression_nesting xs)
unfolding expression_nesting branch_expression_nesting
inside-branch ls xs = search (rules, the_lemmas)

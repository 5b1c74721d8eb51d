-- Statements that are read take tokens.
use Rattle.fb_read.proofs.lemmas.Common.{ℤ, ◌<◌, ◌≤◌, List, Option, length, arith, Expr, Choice, Branch, Stmt, Tokens, IsBody}
use Rattle.fb_read.specs.StatementGrammar.{IsBound, is_bound, is_negative, IsLabel, is_single, is_range, IsStep, no_step, is_step, IsStatement, is_empty, is_exit, is_return, is_assignment, is_if, is_case, is_for, is_while, is_repeat, AreStatements, no_statement, then_statements, IsChoice, is_choice, IsElsif, is_elsif, AreElsifs, no_elsif, then_elsifs, IsBranch, is_branch, AreBranches, no_branch, then_branches, AreOthers, no_others, are_others, is_body}
use Rattle.fb_read.proofs.lemmas.rules.Steps.{mark-shorter, name-shorter, whole-shorter}
use Rattle.fb_read.proofs.lemmas.rules.Lists.{IsShorter, separated-shorter}
use Rattle.fb_read.proofs.lemmas.rules.Lengths.{level-shorter}

bound-shorter : {n : ℤ} {ts rest : Tokens} → IsBound n ts rest → length rest < length ts
bound-shorter (is_bound n) = whole-shorter n
bound-shorter (is_negative k n) = omega (arith, mark-shorter k, whole-shorter n)

pub label-shorter : IsShorter IsLabel
label-shorter x ts rest (is_single b) = bound-shorter b
label-shorter x ts rest (is_range b k c) = omega (arith, bound-shorter b, mark-shorter k, bound-shorter c)

step-shorter : {x : Option Expr} {ts rest : Tokens} → IsStep x ts rest → length rest ≤ length ts
step-shorter no_step = omega arith
step-shorter (is_step k x) = omega (arith, mark-shorter k, level-shorter x)

mutual
  pub statement-shorter : {x : Stmt} {ts rest : Tokens} → IsStatement x ts rest → length rest < length ts
  statement-shorter (is_empty k) = mark-shorter k
  statement-shorter (is_exit k l) = omega (arith, mark-shorter k, mark-shorter l)
  statement-shorter (is_return k l) = omega (arith, mark-shorter k, mark-shorter l)
  statement-shorter (is_assignment n k x l) = omega (arith, name-shorter n, mark-shorter k, level-shorter x, mark-shorter l)
  statement-shorter (is_if k c cs o e l) = omega (arith, mark-shorter k, choice-shorter c, elsifs-shorter cs, others-shorter o, mark-shorter e, mark-shorter l)
  statement-shorter (is_case k x m b bs o e l) = omega (arith, mark-shorter k, level-shorter x, mark-shorter m, branch-shorter b, branches-shorter bs, others-shorter o, mark-shorter e, mark-shorter l)
  statement-shorter (is_for k n a x t y z d b e l) = omega (arith, mark-shorter k, name-shorter n, mark-shorter a, level-shorter x, mark-shorter t, level-shorter y, step-shorter z, mark-shorter d, statements-shorter b, mark-shorter e, mark-shorter l)
  statement-shorter (is_while k x d b e l) = omega (arith, mark-shorter k, level-shorter x, mark-shorter d, statements-shorter b, mark-shorter e, mark-shorter l)
  statement-shorter (is_repeat k b u x e l) = omega (arith, mark-shorter k, statements-shorter b, mark-shorter u, level-shorter x, mark-shorter e, mark-shorter l)

  pub statements-shorter : {xs : List Stmt} {ts rest : Tokens} → AreStatements xs ts rest → length rest ≤ length ts
  statements-shorter no_statement = omega arith
  statements-shorter (then_statements x xs) = omega (arith, statement-shorter x, statements-shorter xs)

  pub choice-shorter : {x : Choice} {ts rest : Tokens} → IsChoice x ts rest → length rest < length ts
  choice-shorter (is_choice x k b) = omega (arith, level-shorter x, mark-shorter k, statements-shorter b)

  pub elsif-shorter : {x : Choice} {ts rest : Tokens} → IsElsif x ts rest → length rest < length ts
  elsif-shorter (is_elsif k c) = omega (arith, mark-shorter k, choice-shorter c)

  pub elsifs-shorter : {xs : List Choice} {ts rest : Tokens} → AreElsifs xs ts rest → length rest ≤ length ts
  elsifs-shorter no_elsif = omega arith
  elsifs-shorter (then_elsifs x xs) = omega (arith, elsif-shorter x, elsifs-shorter xs)

  pub branch-shorter : {x : Branch} {ts rest : Tokens} → IsBranch x ts rest → length rest < length ts
  branch-shorter (is_branch ls k b) = omega (arith, separated-shorter IsLabel label-shorter ls, mark-shorter k, statements-shorter b)

  pub branches-shorter : {xs : List Branch} {ts rest : Tokens} → AreBranches xs ts rest → length rest ≤ length ts
  branches-shorter no_branch = omega arith
  branches-shorter (then_branches x xs) = omega (arith, branch-shorter x, branches-shorter xs)

  pub others-shorter : {xs : List Stmt} {ts rest : Tokens} → AreOthers xs ts rest → length rest ≤ length ts
  others-shorter no_others = omega arith
  others-shorter (are_others k b) = omega (arith, mark-shorter k, statements-shorter b)

pub body-shorter : IsShorter IsBody
body-shorter x ts rest (is_body l k) = omega (arith, statements-shorter l, mark-shorter k)

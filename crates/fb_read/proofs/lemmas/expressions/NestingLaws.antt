-- How deep each kind of expression nests.
use Rattle.fb_types.proofs.Common.{◌≡◌, ℕ, ℤ, suc, ◌≤◌, max, Bool, List, map, arith, rules, Name}
use Rattle.fb_types.specs.declared.text.BinaryOperator.{BinaryOperator}
use Rattle.fb_types.specs.declared.text.UnaryOperator.{UnaryOperator}
use Rattle.fb_types.specs.declared.text.Expr.{Expr}
use Rattle.fb_types.specs.declared.text.Expr.{the_lemmas, fold_out-Expr}
use Rattle.fb_types.specs.declared.text.Expr.TheOpen.{Expr-F}
use Rattle.fb_types.specs.declared.text.Expr.TheVariants as e
use Rattle.fb_read.specs.Nesting.{nesting, deepest, nesting_step}

pub nesting-Group : (x : Expr) → nesting (e.Group x) ≡ suc (nesting x)
unfolding nesting
nesting-Group x = search (rules, the_lemmas)

pub nesting-Unary : (o : UnaryOperator) (x : Expr) → nesting (e.Unary o x) ≡ suc (nesting x)
unfolding nesting
nesting-Unary o x = search (rules, the_lemmas)

pub nesting-Binary : (o : BinaryOperator) (x y : Expr) → nesting (e.Binary o x y) ≡ suc (max (nesting x) (nesting y))
unfolding nesting
nesting-Binary o x y = search (rules, the_lemmas)

pub nesting-Variable : (t : Name) → nesting (e.Variable t) ≡ 1
unfolding nesting
nesting-Variable t = search (rules, the_lemmas)

pub nesting-Call : (t : Name) (xs : List Expr) → nesting (e.Call t xs) ≡ suc (deepest (map nesting xs))
unfolding nesting
nesting-Call t xs = search (rules, the_lemmas)

pub nesting-Whole : (n : ℤ) → nesting (e.Whole n) ≡ 1
unfolding nesting
nesting-Whole n = search (rules, the_lemmas)

pub nesting-Truth : (b : Bool) → nesting (e.Truth b) ≡ 1
unfolding nesting
nesting-Truth b = search (rules, the_lemmas)

positive_step : (l : Expr-F ℕ) → 1 ≤ nesting_step l
positive_step (Expr-F.Whole n) = omega arith
positive_step (Expr-F.Truth b) = omega arith
positive_step (Expr-F.Variable name) = omega arith
positive_step (Expr-F.Group n) = omega arith
positive_step (Expr-F.Unary op n) = omega arith
positive_step (Expr-F.Binary op m n) = omega arith
positive_step (Expr-F.Call name ns) = omega arith

pub nesting-positive : (x : Expr) → 1 ≤ nesting x
unfolding nesting
nesting-positive x = rw fold_out-Expr (positive_step _)

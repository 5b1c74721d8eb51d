use Rattle.std.proofs.Common.{◌≡◌, ◌∙◌, ℕ, List, Some, sym, ap, subst, slice_get}
use Rattle.fb_check_names.specs.declared.location.StatementPart.{StatementPart}
use Rattle.fb_check_names.specs.declared.location.StatementPart.TheVariants as part
use Rattle.fb_types.specs.declared.text.Choice.{Choice}
use Rattle.fb_types.specs.declared.text.Expr.{Expr}
use Rattle.fb_types.specs.declared.text.Stmt as read
use Rattle.fb_why.specs.Marks.{IsPartAt}
use Rattle.fb_why.specs.Marks as spec
use Rattle.fb_why.proofs.expression.expression_of.Goals as goal

-- a part of a statement that is written in another way
so : (s u : read.Stmt) (p q : StatementPart) (e : Expr) (n : ℕ) → s ≡ u → p ≡ q → IsPartAt u q e n → IsPartAt s p e n
so s u p q e n is which h = subst (λ (x : read.Stmt). IsPartAt x p e n) (sym is) (subst (λ (r : StatementPart). IsPartAt u r e n) (sym which) h)

pub returns-in-Value : goal.returns-in-Value
returns-in-Value c =
    let s = c.in-Assign in
    so c.args.stmt.now (read.Assign s.field-0 s.expr) c.args.part part.Value s.expr 2 s.is c.in-Value.is (spec.assigned s.field-0 s.expr)

pub returns-in-Some : goal.returns-in-Some
returns-in-Some c =
    let s = c.in-If in
    let k : ℕ = c.in-Choice.index in
    let h = c.in-Some.ensures in
    let at : slice_get s.choices k ≡ Some h.0 = ap (λ (l : List Choice). slice_get l k) (sym c.as_slice.ensures) ∙ h.1 in
    so c.args.stmt.now (read.If s.choices s.field-1) c.args.part (part.Choice k) c.in-Some.expr.now 1 s.is c.in-Choice.is
    (subst (λ (e : Expr). IsPartAt (read.If s.choices s.field-1) (part.Choice k) e 1) (sym h.2) (spec.condition s.choices s.field-1 k h.0 at))

pub returns-in-Selector : goal.returns-in-Selector
returns-in-Selector c =
    let s = c.in-Case in
    so c.args.stmt.now (read.Case s.selector s.field-1 s.field-2) c.args.part part.Selector s.selector 1 s.is c.in-Selector.is (spec.selector s.selector s.field-1 s.field-2)

pub returns-in-Condition : goal.returns-in-Condition
returns-in-Condition c =
    let s = c.in-While in
    so c.args.stmt.now (read.While s.condition s.field-1) c.args.part part.Condition s.condition 1 s.is c.in-Condition.is (spec.while s.condition s.field-1)

pub returns-in-Until : goal.returns-in-Until
returns-in-Until c =
    let s = c.in-Repeat in
    so c.args.stmt.now (read.Repeat s.field-0 s.condition) c.args.part part.Until s.condition 1 s.is c.in-Until.is (spec.until s.field-0 s.condition)

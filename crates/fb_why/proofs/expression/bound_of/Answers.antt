use Rattle.std.proofs.Common.{◌≡◌, ◌∙◌, ℕ, Option, Some, sym, ap, subst}
use Rattle.fb_check_names.specs.declared.location.StatementPart.{StatementPart}
use Rattle.fb_check_names.specs.declared.location.StatementPart.TheVariants as part
use Rattle.fb_types.specs.declared.text.Expr.{Expr}
use Rattle.fb_types.specs.declared.text.Stmt as read
use Rattle.fb_why.specs.Marks.{IsPartAt}
use Rattle.fb_why.specs.Marks as spec
use Rattle.fb_why.specs.Tokens.{next, past}
use Rattle.fb_why.proofs.expression.bound_of.Goals as goal

pub returns-in-Start : goal.returns-in-Start
returns-in-Start c v body =
    let a : Expr = c.args.start.now in
    subst (λ (p : StatementPart). IsPartAt (read.For v a c.args.end.now c.args.step.now body) p a 3) (sym c.in-Start.is) (spec.start v a c.args.end.now c.args.step.now body)

pub returns-in-End : goal.returns-in-End
returns-in-End c v body =
    let a : Expr = c.args.start.now in
    let b : Expr = c.args.end.now in
    let second : c.next-second.result ≡ next (past a 3) = c.next-second.ensures ∙ ap next c.past.ensures in
    subst (λ (p : StatementPart). IsPartAt (read.For v a b c.args.step.now body) p b c.next-second.result) (sym c.in-End.is)
    (subst (λ (n : ℕ). IsPartAt (read.For v a b c.args.step.now body) part.End b n) (sym second) (spec.end v a b c.args.step.now body))

pub returns-in-Some : goal.returns-in-Some
returns-in-Some c v body =
    let a : Expr = c.args.start.now in
    let b : Expr = c.args.end.now in
    let x : Expr = c.in-Some.step in
    let third : c.next.result ≡ next (past b (next (past a 3))) = c.next.ensures ∙ ap next (c.past-in-Some.ensures ∙ ap (past b) (c.next-second.ensures ∙ ap next c.past.ensures)) in
    subst (λ (o : Option Expr). IsPartAt (read.For v a b o body) c.args.part x c.next.result) (sym c.in-Some.is)
    (subst (λ (p : StatementPart). IsPartAt (read.For v a b (Some x) body) p x c.next.result) (sym c.in-Step.is)
    (subst (λ (n : ℕ). IsPartAt (read.For v a b (Some x) body) part.Step x n) (sym third) (spec.step v a b x body)))

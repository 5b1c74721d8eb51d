use Rattle.fb_st.proofs.lemmas.Common.{List, Option, subst, sym, ◌∙◌, ap, IfSome, expr_of, truth_of, Expr, declared_in, values_of, SaysTruth, truth_said, expr_of_truth, TruthExpr, Slot}
use Rattle.std.specs.Borrow.{Bor}
use Rattle.fb_st.proofs.algorithm.holds_compiled.Goals as goal

pub holds_condition-requires : goal.holds_condition-requires
holds_condition-requires c =
    let Says : Option (Bor TruthExpr) → Type 0 = λ o. IfSome o (λ t. SaysTruth c.args.layout.now (expr_of c.args.guard.now) t.now) in
    let says = subst Says c.in-Some.is c.requires.says in
    record { layout = c.requires.layout ∙ ap declared_in (sym c.frame.view_is); once = c.frame.invariant; right = says.right }

pub returns-in-Some-holds_condition : goal.returns-in-Some-holds_condition
returns-in-Some-holds_condition c =
    let Says : Option (Bor TruthExpr) → Type 0 = λ o. IfSome o (λ t. SaysTruth c.args.layout.now (expr_of c.args.guard.now) t.now) in
    let says = subst Says c.in-Some.is c.requires.says in
    c.in-Some-holds_condition.ensures
    ∙ ap (λ (l : List Slot). truth_of (expr_of_truth c.args.layout.now (truth_said c.in-Some.compiled.now)) (values_of l)) c.frame.view_is
    ∙ ap (λ (e : Expr). truth_of e (values_of c.args.frame.now)) says.says

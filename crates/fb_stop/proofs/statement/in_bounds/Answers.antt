use Rattle.fb_types.proofs.Common.{◌≡◌, ◌∙◌, ℕ, Option, None, Some, IfSome, inl, sym, ap, subst}
use Rattle.fb_types.specs.declared.text.Expr.{Expr}
use Rattle.fb_types.specs.declared.text.Stmt as read
use Rattle.fb_st.specs.Frames.{values_of}
use Rattle.fb_stop.specs.Numbers.{next}
use Rattle.fb_stop.specs.Operations.{FaultIn, IsOtherwise}
use Rattle.fb_stop.specs.Statements.{HasOwn, IsExpression, IsOfFor}
use Rattle.fb_stop.specs.Statements as spec
use Rattle.fb_stop.specs.Tokens.{past}
use Rattle.fb_stop.specs.declared.statement.Anchor.{Anchor}
use Rattle.fb_stop.specs.declared.statement.Anchor.TheVariants.{Beginning}
use Rattle.fb_stop.specs.declared.statement.Placed.{Placed}
use Rattle.fb_stop.proofs.lemmas.operations.FirstWithoutValue.{if_none_map}
use Rattle.fb_stop.proofs.statement.in_bounds.Goals as goal

if_both : {A : Type 0} (P Q R : A → Type 0) (o : Option A) → ((a : A) → P a → Q a → R a) → IfSome o P → IfSome o Q → IfSome o R
if_both P Q R None f p q = tt
if_both P Q R (Some a) f p q = f a p q

pub returns-in-Some-clause-found : goal.returns-in-Some-clause-found
returns-in-Some-clause-found c v body =
    let s : read.Stmt = read.For v c.args.start.now c.args.end.now c.args.step.now body in
    record {
      expression = c.args.start.now;
      first = 3;
      is = subst (λ (a : Anchor). IsExpression s a 3 c.args.start.now) (sym c.in-Some.ensures.anchor) (spec.start v c.args.start.now c.args.end.now c.args.step.now body);
      fault = inl c.in-Some.ensures.fault;
    }

pub returns-in-Some-found_in-clause-found : goal.returns-in-Some-found_in-clause-found
returns-in-Some-found_in-clause-found c v body =
    let s : read.Stmt = read.For v c.args.start.now c.args.end.now c.args.step.now body in
    let second : c.next-second.result ≡ next (past c.args.start.now 3) = c.next-second.ensures ∙ ap next c.past.ensures in
    record {
      expression = c.args.end.now;
      first = c.next-second.result;
      is = subst (λ (a : Anchor). IsExpression s a c.next-second.result c.args.end.now) (sym c.in-Some-found_in.ensures.anchor)
          (subst (λ (n : ℕ). IsExpression s Beginning n c.args.end.now) (sym second) (spec.end v c.args.start.now c.args.end.now c.args.step.now body));
      fault = inl c.in-Some-found_in.ensures.fault;
    }

pub returns-in-Some-step-clause-found : goal.returns-in-Some-step-clause-found
returns-in-Some-step-clause-found c =
    let vars = values_of c.args.frame.now in
    let r = c.args.reason in
    let a : Expr = c.args.start.now in
    let b : Expr = c.args.end.now in
    let x : Expr = c.in-Some-step.step in
    let o : Option Expr = c.args.step.now in
    let third : c.next-third.result ≡ next (past b (next (past a 3))) =
    c.next-third.ensures ∙ ap next (c.past-in-Some-step.ensures ∙ ap (past b) (c.next-second.ensures ∙ ap next c.past.ensures)) in
    if_both (λ (p : Placed). p.anchor ≡ Beginning) (λ (p : Placed). FaultIn vars r x c.next-third.result p.operation) (IsOfFor vars r a b o) c.found_in-in-Some-step.result
    (λ p anchor fault v body.
    let is : IsExpression (read.For v a b (Some x) body) p.anchor c.next-third.result x =
    subst (λ (y : Anchor). IsExpression (read.For v a b (Some x) body) y c.next-third.result x) (sym anchor)
    (subst (λ (n : ℕ). IsExpression (read.For v a b (Some x) body) Beginning n x) (sym third) (spec.step v a b x body)) in
    let own : HasOwn vars r (read.For v a b (Some x) body) p = record { expression = x; first = c.next-third.result; is = is; fault = inl fault } in
    subst (λ (y : Option Expr). HasOwn vars r (read.For v a b y body) p) (sym c.in-Some-step.is) own)
    c.found_in-in-Some-step.ensures.anchor c.found_in-in-Some-step.ensures.fault

one_step : (x e : Expr) (step : Option Expr) → step ≡ Some x → step ≡ Some e → x ≡ e
one_step x e step a b = let both : Some x ≡ Some e = sym a ∙ b in cc

pub returns-in-Some-step-clause-none : goal.returns-in-Some-step-clause-none
returns-in-Some-step-clause-none c =
    let x : Expr = c.in-Some-step.step in
    if_none_map c.found_in-in-Some-step.result
    (λ none. (c.in_default.ensures.none, c.in_default-found_in.ensures.none, λ e is. subst (IsOtherwise (values_of c.args.frame.now) c.args.reason) (one_step x e c.args.step.now c.in-Some-step.is is) none))
    c.found_in-in-Some-step.ensures.none

use Rattle.fb_types.proofs.Common.{sym, ◌∙◌, rules, to_z-of_z, expr_of}
use mir.Syntax.{w64}
use mir.Val.{SFits}
use Rattle.fb_st.proofs.lemmas.MakingCode.{long_made, truth_made, within_made}
use Rattle.fb_st.proofs.compile_stmt.assignment.Goals as goal

pub returns-then-is_bool : goal.returns-then-is_bool
returns-then-is_bool c =
    truth_made c.args.scope.now.layout.now c.in-Some.slot c.ty-ty.result c.args.variable.now (expr_of c.args.expr.now) c.in_ok-expr.expr c.in-Some.ensures.within c.ty-ty.ensures
    (sym c.is_bool.ensures ∙ c.if-is_bool.true) (c.in-Some.ensures.named ∙ c.name.ensures) c.in_ok-expr.ensures

pub returns-then-is_long : goal.returns-then-is_long
returns-then-is_long c =
    long_made c.args.scope.now.layout.now c.in-Some.slot c.ty-ty.result c.args.variable.now (expr_of c.args.expr.now) c.in_ok-expr-2.expr c.in-Some.ensures.within c.ty-ty.ensures
    (sym c.is_long.ensures ∙ c.if-is_long.true) (c.in-Some.ensures.named ∙ c.name.ensures) c.in_ok-expr-2.ensures

pub returns : goal.returns
returns c =
    let least : SFits w64 c.least_of_type-least.result = search rules in
    let most : SFits w64 c.most_of_type-most.result = search rules in
    rw (to_z-of_z least, to_z-of_z most)
    (within_made c.args.scope.now.layout.now c.in-Some.slot c.ty-ty.result c.least_of_type-least.result c.most_of_type-most.result c.args.variable.now (expr_of c.args.expr.now) c.in_ok-expr-2.expr
    c.in-Some.ensures.within c.ty-ty.ensures (sym c.is_bool.ensures ∙ c.if-is_bool.false) c.least_of_type-least.ensures c.most_of_type-most.ensures (c.in-Some.ensures.named ∙ c.name.ensures) c.in_ok-expr-2.ensures)

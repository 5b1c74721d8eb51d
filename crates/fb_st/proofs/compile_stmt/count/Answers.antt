use Rattle.fb_types.proofs.Common.{sym, ◌∙◌, rules, to_z-of_z, expr_of, step_of}
use mir.Syntax.{w64}
use mir.Val.{SFits}
use Rattle.fb_st.proofs.lemmas.MakingCode.{count_made}
use Rattle.fb_st.proofs.compile_stmt.count.Goals as goal

pub returns : goal.returns
returns c =
    let least : SFits w64 c.least_of_type.result = search rules in
    let most : SFits w64 c.most_of_type.result = search rules in
    rw (to_z-of_z least, to_z-of_z most)
    (count_made c.args.scope.now.layout.now c.ty-ty.result _ c.args.variable.now (expr_of c.args.start.now) (expr_of c.args.end.now) (step_of c.args.step.now) c.in-Some.ensures.within c.ty-ty.ensures
    (sym c.is_bool.ensures ∙ c.if-is_bool.false) c.least_of_type.ensures c.most_of_type.ensures (c.in-Some.ensures.named ∙ c.name.ensures)
    c.in_ok-compile_number.ensures c.in_ok-compile_number-2.ensures c.in_ok-step_number.ensures)

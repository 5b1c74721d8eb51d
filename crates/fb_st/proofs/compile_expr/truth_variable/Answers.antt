use Rattle.std.proofs.Common.{sym, ◌∙◌, ap}
use Rattle.fb_st.specs.Fitting.{is_truth}
use Rattle.fb_st.proofs.lemmas.Making.{flag_says}
use Rattle.fb_st.proofs.compile_expr.truth_variable.Goals as goal

pub returns-then-is_bool : goal.returns-then-is_bool
returns-then-is_bool c =
    flag_says c.args.scope.now.layout.now c.in-Some.slot c.args.variable.now c.in-Some.ensures.within
    (ap is_truth (sym c.ty.ensures) ∙ sym c.is_bool.ensures ∙ c.if-is_bool.true) (c.in-Some.ensures.named ∙ c.name.ensures)

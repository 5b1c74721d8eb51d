use Rattle.std.proofs.Common.{sym, ◌∙◌, ap}
use Rattle.fb_st.specs.Fitting.{is_plain, is_unsigned}
use Rattle.fb_st.proofs.lemmas.Making.{slot_says, unsigned_says}
use Rattle.fb_st.proofs.compile_expr.number_variable.Goals as goal

pub returns-then-is_plain : goal.returns-then-is_plain
returns-then-is_plain c =
    slot_says c.args.scope.now.layout.now c.in-Some.slot c.args.variable.now c.in-Some.ensures.within
    (ap is_plain (sym c.ty-ty.ensures) ∙ sym c.is_plain.ensures ∙ c.if-is_plain.true) (c.in-Some.ensures.named ∙ c.name.ensures)

pub returns-then-is_unsigned : goal.returns-then-is_unsigned
returns-then-is_unsigned c =
    unsigned_says c.args.scope.now.layout.now c.in-Some.slot c.args.variable.now c.in-Some.ensures.within
    (ap is_unsigned (sym c.ty-ty.ensures) ∙ sym c.is_unsigned.ensures ∙ c.if-is_unsigned.true) (c.in-Some.ensures.named ∙ c.name.ensures)

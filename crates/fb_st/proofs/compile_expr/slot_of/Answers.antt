use Rattle.std.proofs.Common.{◌≡◌, ◌∙◌, ℕ, refl, ap}
use Rattle.fb_st.specs.Compiled.{Slot, number_said}
use Rattle.fb_st.specs.declared.compiled.NumberExpr.{fold-roll-NumberExpr}
use Rattle.fb_st.specs.declared.compiled.NumberExpr.TheVariants as number
use Rattle.fb_st.proofs.compile_expr.slot_of.Goals as goal

slot_said : (i : ℕ) → number_said (number.Slot i) ≡ Slot i
slot_said i = rw (← number.rolls-Slot i) (rw fold-roll-NumberExpr refl)

pub returns-in-Slot : goal.returns-in-Slot
returns-in-Slot c = ap number_said c.in-Slot.is ∙ slot_said c.in-Slot.i

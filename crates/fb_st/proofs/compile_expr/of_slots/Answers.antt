use Rattle.fb_types.proofs.Common.{◌≡◌, ◌∙◌, ℕ, refl, sym, ap}
use Rattle.fb_types.specs.declared.text.BinaryOperator.{BinaryOperator}
use Rattle.fb_types.specs.declared.text.BinaryOperator.TheVariants.{Add, Subtract, Multiply, Divide, Modulo}
use Rattle.fb_st.specs.Compiled.{Number, Binary, Slot, number_said}
use Rattle.fb_st.specs.declared.compiled.NumberExpr.{fold-roll-NumberExpr}
use Rattle.fb_st.specs.declared.compiled.NumberExpr.TheVariants as number
use Rattle.fb_st.proofs.compile_expr.of_slots.Goals as goal

add_said : (i j : ℕ) → number_said (number.AddSlots i j) ≡ Binary Add (Slot i) (Slot j)
add_said i j = rw (← number.rolls-AddSlots i j) (rw fold-roll-NumberExpr refl)

subtract_said : (i j : ℕ) → number_said (number.SubtractSlots i j) ≡ Binary Subtract (Slot i) (Slot j)
subtract_said i j = rw (← number.rolls-SubtractSlots i j) (rw fold-roll-NumberExpr refl)

multiply_said : (i j : ℕ) → number_said (number.MultiplySlots i j) ≡ Binary Multiply (Slot i) (Slot j)
multiply_said i j = rw (← number.rolls-MultiplySlots i j) (rw fold-roll-NumberExpr refl)

divide_said : (i j : ℕ) → number_said (number.DivideSlots i j) ≡ Binary Divide (Slot i) (Slot j)
divide_said i j = rw (← number.rolls-DivideSlots i j) (rw fold-roll-NumberExpr refl)

modulo_said : (i j : ℕ) → number_said (number.ModuloSlots i j) ≡ Binary Modulo (Slot i) (Slot j)
modulo_said i j = rw (← number.rolls-ModuloSlots i j) (rw fold-roll-NumberExpr refl)

abbrev of : (i j : ℕ) → BinaryOperator → Number
of i j o = Binary o (Slot i) (Slot j)

pub returns-in-Add : goal.returns-in-Add
returns-in-Add c = add_said c.args.i c.args.j ∙ ap (of c.args.i c.args.j) (sym c.in-Add.is)

pub returns-in-Subtract : goal.returns-in-Subtract
returns-in-Subtract c = subtract_said c.args.i c.args.j ∙ ap (of c.args.i c.args.j) (sym c.in-Subtract.is)

pub returns-in-Multiply : goal.returns-in-Multiply
returns-in-Multiply c = multiply_said c.args.i c.args.j ∙ ap (of c.args.i c.args.j) (sym c.in-Multiply.is)

pub returns-in-Divide : goal.returns-in-Divide
returns-in-Divide c = divide_said c.args.i c.args.j ∙ ap (of c.args.i c.args.j) (sym c.in-Divide.is)

pub returns-in-Modulo : goal.returns-in-Modulo
returns-in-Modulo c = modulo_said c.args.i c.args.j ∙ ap (of c.args.i c.args.j) (sym c.in-Modulo.is)

use Rattle.fb_types.proofs.Common.{◌≡◌, ◌∙◌, ℤ, sym, ap, to_z-of_z, int_lt}
use Rattle.fb_types.specs.declared.text.BinaryOperator.{BinaryOperator}
use Rattle.fb_st.specs.Compiled.{compared_by}
use Rattle.fb_st.proofs.short.is_so.Goals as goal

same_order : (x y a b : ℤ) → a ≡ x → b ≡ y → int_lt a b ≡ int_lt x y
same_order x y a b p q = λ i. int_lt (p i) (q i)

pub returns-in-Less : goal.returns-in-Less
returns-in-Less c =
    same_order c.args.x c.args.y _ _ (to_z-of_z c.ranges.x) (to_z-of_z c.ranges.y)
    ∙ ap (λ (o : BinaryOperator). compared_by o c.args.x c.args.y) (sym c.in-Less.is)

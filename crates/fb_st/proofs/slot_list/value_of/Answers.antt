use Rattle.fb_types.proofs.Common.{◌≡◌, ◌∙◌, ◌==◌, ℤ, Bool, not, sym, ap, rules, arith, nat_tests, ints}
use Rattle.fb_types.specs.declared.value.Ty.{Ty}
use mir.Syntax.{w64}
use mir.Val.{SFits, of_z}
use Rattle.fb_types.specs.declared.value.Value.TheVariants as value
use Rattle.fb_st.specs.Compiled.{truth_of_word}
use Rattle.fb_st.specs.Fitting.{value_of_word}
use Rattle.fb_st.proofs.slot_list.value_of.Goals as goal

is_set : (z : ℤ) → SFits w64 z → not (of_z w64 z == 0) ≡ truth_of_word z
is_set z fit = first_of (grind (arith, ints, nat_tests, fit), grind (arith, ints, fit), search rules)

pub returns-in-Bool : goal.returns-in-Bool
returns-in-Bool c =
    ap (λ (b : Bool). value.Bool b) (is_set c.args.word c.ranges.word) ∙ ap (λ (t : Ty). value_of_word t c.args.word) (sym c.in-Bool.is)

use Rattle.fb_st.proofs.lemmas.Common.{◌∙◌, ap, sym, rules, to_z-of_z, binary_value, as_whole, wholes}
use mir.Syntax.{w128}
use mir.Val.{SFits}
use Rattle.fb_types.specs.declared.value.Value.TheVariants as value
use Rattle.fb_st.proofs.lemmas.Comes.{again_two}
use Rattle.fb_st.proofs.operator.binary.Goals as goal

pub returns-then-is_arithmetic : goal.returns-then-is_arithmetic
returns-then-is_arithmetic c =
    let x : SFits w128 c.whole_of.result = search rules in
    let y : SFits w128 c.whole_of-then-is_arithmetic.result = search rules in
    let first = to_z-of_z x ∙ c.whole_of.ensures in
    let second = to_z-of_z y ∙ c.whole_of-then-is_arithmetic.ensures in
    let known = c.number_of_two.ensures ∙ (λ i. wholes (binary_value c.args.operator (value.Whole (first i)) (value.Whole (second i)))) in
    rw (c.in_ok-first.was, c.in_ok-second.was)
    (c.whole_value.ensures ∙ ap as_whole known ∙ again_two c.args.operator c.in_ok-first.first c.in_ok-second.second (sym c.is_arithmetic.ensures ∙ c.if-is_arithmetic.true))

pub returns : goal.returns
returns c = rw (c.in_ok-first.was, c.in_ok-second.was) (sym (c.truth_of_two.ensures (sym c.is_arithmetic.ensures ∙ c.if-is_arithmetic.false)))

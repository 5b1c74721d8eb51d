use Rattle.fb_st.proofs.lemmas.Common.{◌∙◌, ap, rules, to_z-of_z, neg_ℤ, whole, as_whole, wholes}
use mir.Syntax.{w128}
use mir.Val.{SFits}
use Rattle.fb_types.specs.Values.{judged}
use Rattle.fb_st.proofs.lemmas.Comes.{again_judged}
use Rattle.fb_st.proofs.operator.unary.Goals as goal

pub returns-in-Negate : goal.returns-in-Negate
returns-in-Negate c =
    let fit : SFits w128 c.whole_of.result = search rules in
    let known = c.negated.ensures ∙ ap (λ z. wholes (judged (neg_ℤ z))) (to_z-of_z fit ∙ c.whole_of.ensures) in
    rw (c.in_ok-value.was, c.in-Negate.is) (c.whole_value.ensures ∙ ap as_whole known ∙ again_judged (neg_ℤ (whole c.in_ok-value.value)))

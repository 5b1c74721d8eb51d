use Rattle.std.proofs.Common.{◌≡◌, ◌∙◌, ℤ, rules, to_z-of_z}
use Rattle.std.specs.Prelude.{int_div}
use mir.Syntax.{w64, w128}
use mir.Val.{SFits}
use Rattle.fb_st.proofs.operator.divided_at_once.Goals as goal

same_quotient : (x y a b : ℤ) → a ≡ x → b ≡ y → int_div a b ≡ int_div x y
same_quotient x y a b p q = λ i. int_div (p i) (q i)

pub returns-in_ok-checked_div-in-Ok-Ok : goal.returns-in_ok-checked_div-in-Ok-Ok
returns-in_ok-checked_div-in-Ok-Ok c =
    let z : ℤ = c.in_ok-checked_div-in-Ok-Ok.field-0 in
    let whole : SFits w128 c.from.result = search rules in
    let fits : SFits w64 z = search rules in
    let first : SFits w64 c.in-Ok-Ok.a = search rules in
    let second : SFits w64 c.in-Ok-Ok.b = search rules in
    to_z-of_z whole ∙ c.from.ensures ∙ to_z-of_z fits ∙ c.in_ok-checked_div-in-Ok-Ok.ensures.1
    ∙ same_quotient c.args.x c.args.y _ _
    (to_z-of_z first ∙ c.in-Ok-Ok.ensures.1 ∙ to_z-of_z c.ranges.x) (to_z-of_z second ∙ c.in-Ok-Ok.ensures'.1 ∙ to_z-of_z c.ranges.y)

use Rattle.fb_types.proofs.Common.{◌≡◌, ℤ, false, subst, rules, to_z-of_z, IfSome, passed}
use mir.Syntax.{w64}
use mir.Val.{SFits}
use Rattle.fb_st.proofs.running.short_next.Goals as goal

pub returns-clause-goes_on : goal.returns-clause-goes_on
returns-clause-goes_on c =
    let short_end : SFits w64 c.in_ok-end.end = search rules in
    let short_step : SFits w64 c.in_ok-step.step = search rules in
    let end_is : c.in_ok-end.end ≡ c.args.span.now.end = search rules in
    let step_is : c.in_ok-step.step ≡ c.args.span.now.step = search rules in
    let known_so = rw (to_z-of_z short_end, to_z-of_z short_step) at c.short_sum.ensures.goes_on in
    subst (λ (x : ℤ). IfSome c.short_sum.result (λ z. passed c.args.span.now.end x z ≡ false)) step_is
    (subst (λ (x : ℤ). IfSome c.short_sum.result (λ z. passed x c.in_ok-step.step z ≡ false)) end_is known_so)

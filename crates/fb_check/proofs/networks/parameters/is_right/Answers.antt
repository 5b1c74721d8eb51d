use Rattle.fb_types.proofs.Common.{Bool, false, not, Option, None, Some, sym, ◌∙◌, ap, fits}
use Rattle.fb_types.specs.declared.value.Ty.{Ty}
use Rattle.fb_check.proofs.lemmas.networks.Valued.{not_not}
use Rattle.fb_check.proofs.networks.parameters.is_right.Goals as goal

pub returns-in-Some : goal.returns-in-Some
returns-in-Some c =
    let v = c.args.parameter.now.value in
    c.holds.ensures ∙ sym (not_not (fits c.in-Some.ty v))
    ∙ ap (λ (o : Option Ty). not (elim o as (λ _. Bool) [ None ↦ false | Some s ↦ not (fits s v) ])) (sym c.in-Some.is ∙ c.input_type.ensures)

use Rattle.fb_types.proofs.Common.{ℤ, [], ◌∷◌, sym, ap, ◌∙◌, rules, to_z-of_z, Carried, Value}
use mir.Syntax.{w128}
use mir.Val.{SFits}
use Rattle.fb_types.specs.Carrying.{values_in}
use Rattle.fb_types.specs.declared.value.Value.TheVariants as value
use Rattle.fb_types.proofs.message_values.MessageValues.one.Goals as goal
use Rattle.fb_types.proofs.message_values.MessageValues.one.Goals.{in-Bool, in-Whole}

pub returns : goal.returns
returns c =
    let carried : Value → Carried = λ v. record { instance = c.args.instance; variable = c.args.variable; value = v } in
    elim c.match-value.branch [
      | in-Bool w ↦ ap values_in w.held-is ∙ ap (λ (v : Value). carried v ∷ []) (sym w.in-Bool.is)
      | in-Whole w ↦
          let range : SFits w128 w.in-Whole.number = search rules in
          ap values_in w.held-is ∙ ap (λ (z : ℤ). carried (value.Whole z) ∷ []) (to_z-of_z range) ∙ ap (λ (v : Value). carried v ∷ []) (sym w.in-Whole.is)
    ]

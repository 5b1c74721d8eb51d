use Rattle.fb_inputs.proofs.lemmas.Common.{sym, ap, ◌∙◌, inl, inr, RowFault}
use Rattle.fb_inputs.specs.Positions.{stimuli_position}
use Rattle.fb_inputs.specs.declared.location.StimuliLocation.TheVariants as stimuli
use Rattle.fb_inputs.proofs.position.stimuli_position.Goals as goal

pub returns-in-Tick : goal.returns-in-Tick
returns-in-Tick c =
    elim c.in-Tick.is [
      | inl tick ↦ sym (ap stimuli_position (c.in-Row.is ∙ ap (λ (f : RowFault). stimuli.Row c.in-Row.row f) tick))
      | inr late ↦ sym (ap stimuli_position (c.in-Row.is ∙ ap (λ (f : RowFault). stimuli.Row c.in-Row.row f) late))
    ]

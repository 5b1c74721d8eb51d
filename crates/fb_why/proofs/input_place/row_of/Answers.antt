use Rattle.std.proofs.Common.{Some, sym, ap, ◌∙◌}
use Rattle.fb_why.specs.InputPlaces.{row_of}
use Rattle.fb_why.specs.declared.input_place.InputPosition.{InputPosition}
use Rattle.fb_why.proofs.input_place.row_of.Goals as goal

pub returns-in-Some-Stimuli : goal.returns-in-Some-Stimuli
returns-in-Some-Stimuli c =
    let row = rw c.in-Some-Stimuli.is at c.in-Some-Stimuli.field-0-is in
    sym (ap row_of (c.in-Some-Stimuli.is ∙ ap (λ (p : InputPosition). Some p) row))

use Rattle.fb_inputs.proofs.lemmas.Common.{List, ℕ, sym, subst, stimulus}
use Rattle.csv.specs.Records.{fields_of}
use Rattle.fb_inputs.specs.StimuliLocations.{AnswersInRow}
use Rattle.fb_inputs.proofs.lemmas.stimuli.Fields.{three_row}
use Rattle.fb_inputs.proofs.stimuli.stimulus_in.Goals as goal

pub returns-in-Some : goal.returns-in-Some
returns-in-Some c =
    subst (λ (z : List (List ℕ)). AnswersInRow (λ s. s) (stimulus c.args.before z) c.stimulus_of.result)
    (sym (three_row (fields_of c.args.row.now) c.in-Some.tick.now c.in-Some.event.now c.in-Some.values.now c.in-Some.ensures)) c.stimulus_of.ensures

use Rattle.std.proofs.Common.{◌+◌}
use Rattle.fb_inputs.specs.NearSpans.{IsWordAt, IsWordIn}
use Rattle.fb_inputs.proofs.lemmas.positions.FieldSpans.{word_inside}
use Rattle.fb_inputs.proofs.lemmas.positions.Found.{found_as}
use Rattle.fb_inputs.proofs.near_stimuli.span_at.Goals as goal

pub returns-in-Some-clause-found : goal.returns-in-Some-clause-found
returns-in-Some-clause-found c =
    let text = c.args.text.now in
    let row = c.in-Word.row + 1 in
    let word = c.in-Word.word in
    let field = c.in-Some.field in
    let here = rw c.in-Some.is at (rw c.in_ok-field-in-Word.was at c.field_of_row-in-Word.ensures.found) in
    rw c.in-Word.is
    (found_as (IsWordIn text field word) (IsWordAt text row word) c.word_in.result (λ span inside. (field, here, inside)) (λ span at. word_inside text row word field span here at) c.word_in.ensures)

pub returns-in-None-clause-found : goal.returns-in-None-clause-found
returns-in-None-clause-found c =
    let none = rw c.in-None.is at (rw c.in_ok-field-in-Word.was at c.field_of_row-in-Word.ensures.found) in
    rw c.in-Word.is (λ span at. none at.0 at.1)

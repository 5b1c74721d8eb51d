use Rattle.fbsim_command.proofs.lemmas.Common.{Bor, IfOk, List, ℕ, ◌∙◌, AllZip, subst}
use Rattle.fb_inputs.specs.NearSpans.{IsNearInStimuli}
use Rattle.fb_inputs.specs.declared.position.StimuliPosition.{StimuliPosition}
use Rattle.fb_read.specs.declared.token.Span.{Span}
use Rattle.fbsim_command.specs.WarningLines.{IsPlaceNear}
use Rattle.fbsim_command.proofs.lemmas.files.PlacedLines.{rows_found}
use Rattle.fbsim_command.proofs.row_places.row_places.Goals as goal

pub returns : goal.returns
returns c =
    let text = c.unwrap_or-text.result in
    rows_found c.args.stimuli _ text c.args.warnings.now c.in_ok-spans.spans.items c.places_of_spans.result c.unwrap_or-text.ensures
    (subst (λ (ps : List StimuliPosition). AllZip (IsNearInStimuli text.now) ps c.in_ok-spans.spans.items) (c.as_slice.ensures.value ∙ c.in_ok-positions.ensures) c.in_ok-spans.ensures)
    (subst (λ (ss : List Span). IfOk c.places_of_spans.result (λ places. AllZip (IsPlaceNear text.now) ss places.items)) c.as_slice-2.ensures.value c.places_of_spans.ensures)

use Rattle.std.proofs.Common.{◌≡◌, ◌∙◌, Bor, List, ℕ, Option, Some, ap, option_map, subst, sym}
use Rattle.fb_inputs.specs.NearSpans.{IsNearInStimuli}
use Rattle.fb_inputs.specs.declared.position.StimuliPosition.{StimuliPosition}
use Rattle.fb_read.specs.declared.token.Span.{Span}
use Rattle.fb_why.specs.InputPlaces.{IsNearIn, IsPlaceFor, Text, is_in_deployment, row_of}
use Rattle.fb_why.specs.declared.input_place.InputPosition.{InputPosition}
use Rattle.fb_why.specs.declared.input_place.InputPosition.TheVariants as input
use Rattle.fb_why.proofs.lemmas.InputPlaces.{placed}
use Rattle.fb_why.proofs.input_place.place_of.Goals as goal

abbrev bytes : Option (Bor (List ℕ)) → Option (List ℕ)
bytes o = option_map (λ (b : Bor (List ℕ)). b.now) o

-- the bytes are near the row in the stimuli
near_row :
    (stimuli : Option Text) (position : Option InputPosition) (row : StimuliPosition) (text : Text) (span : Span) → position ≡ Some (input.Stimuli row) → IsNearIn stimuli (row_of position) span
    → stimuli ≡ Some text → IsNearInStimuli text row span
near_row stimuli position row text span is near given =
    subst (λ (s : Option Text). IsNearIn s row span) given (subst (λ (p : Option InputPosition). IsNearIn stimuli (row_of p) span) is near)

pub further_bytes-requires : goal.further_bytes-requires
further_bytes-requires c =
    let here = c.in-Some-Further in
    let is : c.args.position ≡ Some (input.Further here.table) = here.is ∙ ap (λ (p : InputPosition). Some p) (rw here.is at here.field-0-is) in
    c.requires.read (ap is_in_deployment is) c.in-Some.bytes.now (ap bytes c.in-Some.is)

pub returns-in-Some-Stimuli : goal.returns-in-Some-Stimuli
returns-in-Some-Stimuli c =
    let here = c.in-Some-Stimuli in
    let is : c.args.position ≡ Some (input.Stimuli here.field-0-0) = here.is ∙ ap (λ (p : InputPosition). Some p) (rw here.is at here.field-0-is) in
    subst (λ (p : Option InputPosition). IsPlaceFor (bytes c.args.deploy) (bytes c.args.stimuli) p c.place_in-in-Some-Stimuli.result) (sym is)
    (placed (bytes c.args.deploy) (bytes c.args.stimuli) (input.Stimuli here.field-0-0) c.args.span c.place_in-in-Some-Stimuli.result
    (λ text given. near_row (bytes c.args.stimuli) c.args.position here.field-0-0 text c.args.span is c.requires.near given) c.place_in-in-Some-Stimuli.ensures)

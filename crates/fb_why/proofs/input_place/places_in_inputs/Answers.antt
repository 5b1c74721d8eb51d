use Rattle.fb_types.proofs.Common.{◌∙◌, ap, map, subst, Bor, List, ℕ, Option, option_map, AllZip}
use Rattle.fb_inputs.specs.declared.position.StimuliPosition.{StimuliPosition}
use Rattle.fb_why.specs.InputPlaces.{IsNearIn, row_of}
use Rattle.fb_why.specs.declared.input_place.InputPosition.{InputPosition}
use Rattle.fb_why.proofs.lemmas.InputPlaces.{all_of_findings, near_given}
use Rattle.fb_why.proofs.input_place.places_in_inputs.Goals as goal

abbrev bytes : Option (Bor (List ℕ)) → Option (List ℕ)
bytes o = option_map (λ (b : Bor (List ℕ)). b.now) o

pub places_of-requires-clause-near : goal.places_of-requires-clause-near
places_of-requires-clause-near c =
    rw (c.as_slice-5.ensures.value, c.as_slice-4.ensures.value)
    (subst (λ (rows : List StimuliPosition). AllZip (IsNearIn (bytes c.args.stimuli)) rows c.in_ok-spans.spans.items)
    (c.as_slice-2.ensures.value ∙ c.in_ok-rows.ensures ∙ ap (λ (ps : List (Option InputPosition)). map row_of ps) c.as_slice.ensures.value)
    (near_given c.args.stimuli _ c.unwrap_or.result c.as_slice-2.result.now c.in_ok-spans.spans.items c.unwrap_or.ensures c.in_ok-spans.ensures))

pub places_of-requires-clause-read : goal.places_of-requires-clause-read
places_of-requires-clause-read c = rw (c.as_slice-4.ensures.value, c.in_ok-outline.ensures) (rw c.as_slice-3.ensures.value at c.deployment_for.ensures)

pub returns : goal.returns
returns c = all_of_findings (bytes c.args.deploy) (bytes c.args.stimuli) c.args.found.now c.in_ok-positions.positions.items c.places_of.result c.in_ok-positions.ensures (rw c.as_slice-4.ensures.value at c.places_of.ensures)

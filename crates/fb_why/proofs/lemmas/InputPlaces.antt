-- Places of findings in the deployment and in the stimuli.
use Rattle.fb_types.proofs.Common.{◌≡◌, Bor, List, Option, Some, None, Result, Ok, Err, sym, subst, ap, ◌∙◌, AllZip, IfOk, MatchOption, inl, inr, option_map, unwrap_or}
use Rattle.std.proofs.Common.{Vec}
use Rattle.std.proofs.lemmas.Option.{none-some, same_Some}
use Rattle.fb_read.specs.declared.token.Span.{Span}
use Rattle.fb_inputs.specs.NearSpans.{IsNearInStimuli}
use Rattle.fb_inputs.specs.declared.position.StimuliPosition.{StimuliPosition}
use Rattle.fb_why.specs.InputPlaces.{AreBytesOf, HasNoBytes, IsInInput, IsNearIn, IsPlaceFor, IsPlaceOf, IsShownAt, Text, file_of, text_for}
use Rattle.fb_why.specs.declared.input_place.InputPosition.{InputPosition}
use Rattle.fb_why.specs.declared.input_place.InputPlace.{InputPlace}
use Rattle.fb_why.specs.declared.place.PlacedFinding.{PlacedFinding}
use Rattle.fb_why.proofs.lemmas.PairedLists.{paired_across, paired_by}

-- bytes near positions in the stimuli that are given; where none are given, any will do
pub near_given :
    (stimuli : Option (Bor Text)) (empty text : Bor Text) (rows : List StimuliPosition) (spans : List Span) → text ≡ unwrap_or stimuli empty → AllZip (IsNearInStimuli text.now) rows spans
    → AllZip (IsNearIn (option_map (λ (b : Bor Text). b.now) stimuli)) rows spans
near_given None empty text rows spans is near = paired_by (IsNearInStimuli text.now) (IsNearIn None) rows spans (λ p s h. tt) near
near_given (Some bytes) empty text rows spans is near = subst (λ (b : Bor Text). AllZip (IsNearInStimuli b.now) rows spans) is near

-- the place of the position at which a finding is shown is that of the finding
pub of_finding :
    (deploy stimuli : Option Text) (found : PlacedFinding) (position : Option InputPosition) (place : Option InputPlace) → IsShownAt deploy found position → IsPlaceFor deploy stimuli position place
    → IsPlaceOf deploy stimuli found place
of_finding deploy stimuli found None place shown at = subst (λ (o : Option InputPlace). IsPlaceOf deploy stimuli found o) (sym at) (inl shown)
of_finding deploy stimuli found (Some position) None shown at = inr (position, shown, at)
of_finding deploy stimuli found (Some position) (Some place) shown at = (position, shown, at)

pub all_of_findings :
    {E A : Type 0} (deploy stimuli : Option Text) (found : List PlacedFinding) (positions : List (Option InputPosition)) (r : Result (Vec (Option InputPlace) A) E) → AllZip (IsShownAt deploy) found positions
    → IfOk r (λ places. AllZip (IsPlaceFor deploy stimuli) positions places.items) → IfOk r (λ places. AllZip (IsPlaceOf deploy stimuli) found places.items)
all_of_findings deploy stimuli found positions (Err e) shown at = tt
all_of_findings deploy stimuli found positions (Ok places) shown at =
    paired_across (IsShownAt deploy) (IsPlaceFor deploy stimuli) (IsPlaceOf deploy stimuli) found positions places.items (λ f p o. of_finding deploy stimuli f p o) shown at

-- the place of bytes at a position is that of the position
pub placed :
    (deploy stimuli : Option Text) (position : InputPosition) (span : Span) (o : Option InputPlace)
    → ((text : Text) → text_for deploy stimuli (file_of position) ≡ Some text → IsInInput text position span)
    → MatchOption o (HasNoBytes (text_for deploy stimuli (file_of position)) span) (AreBytesOf (file_of position) (text_for deploy stimuli (file_of position)) span)
    → IsPlaceFor deploy stimuli (Some position) o
placed deploy stimuli position span None here (inl none) = inl none
placed deploy stimuli position span None here (inr (text, given, outside)) =
    inr (record { text = text; is_given = given; outside = record { span = span; near = here text given; outside = outside } })
placed deploy stimuli position span (Some place) here at = record {
  text = at.text;
  is_given = at.is_given;
  is_in = at.is_in;
  is_there = record { span = span; near = here at.text at.is_given; there = at.there; located = at.located };
}

-- the deployment that is given is read
pub read_given : (deploy : Option (Bor Text)) (empty text : Bor Text) → text ≡ unwrap_or deploy empty → (bytes : Text) → option_map (λ (b : Bor Text). b.now) deploy ≡ Some bytes → text.now ≡ bytes
read_given None empty text is bytes given = absurd (none-some bytes given)
read_given (Some b) empty text is bytes given = ap (λ (x : Bor Text). x.now) is ∙ same_Some b.now bytes given

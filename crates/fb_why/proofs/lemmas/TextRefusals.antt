-- The stimuli that a refusal is about, and refusals of a text.
use Rattle.fb_types.proofs.Common.{◌≡◌, ℕ, List, Option, Some, None, Result, Ok, Err, refl, sym, subst, ◌∙◌, inl, inr, IfOk, IfSome, MatchOption}
use Rattle.std.proofs.lemmas.Option.{MatchOption-at_none, MatchOption-at_some}
use Rattle.fb_read.specs.Errors.{fault_number}
use Rattle.fb_why.proofs.lemmas.TextReadings.{finds-numbered}
use Rattle.fb_why.specs.Faults.{IsTextRefusal}
use Rattle.fb_why.specs.declared.find.TextRefusal.{TextRefusal}
use Rattle.fb_why.specs.Findings.{IsFoundAt, IsSilentOfBytes, IsSilentOfDeployment, IsSilentOfStimuli, IsSilentOfText, FindsInBytes, FindsInDeployment, FindsInStimuli, FindsInText}
use Rattle.fb_why.specs.Places.{HasNoPlace, IsPlaceOf, IsPlacedFinding}
use Rattle.fb_why.specs.declared.place.PlacedFinding.{PlacedFinding}
use Rattle.fb_read_positions.specs.declared.places.Place.{Place}
use Rattle.fb_why.specs.declared.location.FindingLocation.{FindingLocation}
use Rattle.fb_why.specs.declared.location.FindingLocation.TheVariants as found

abbrev some_number : ℕ → Option ℕ
some_number n = Some n

-- a refusal of the text with this number
pub text_found :
    {E : Type 0} (number : ℕ) (text : List ℕ) (r : TextRefusal) (made : Result (Option PlacedFinding) E) → IsTextRefusal text r → fault_number r.refusal.fault ≡ number
    → IfOk made (IsFoundAt (found.Text r.place) (Some r.place)) → IfOk made (λ o. MatchOption o (IsSilentOfText number text) (λ f. FindsInText number text f.finding.location))
text_found number text r (Err e) h n w = tt
text_found number text r (Ok None) h n w = absurd w
text_found number text r (Ok (Some f)) h n w = subst (λ (x : FindingLocation). FindsInText number text x) (sym w.0) (finds-numbered text r number h n)

-- its place is the location itself
pub text_placed :
    {E : Type 0} (text : List ℕ) (place : Place) (made : Result (Option PlacedFinding) E) → IfOk made (IsFoundAt (found.Text place) (Some place))
    → IfOk made (λ o. IfSome o (IsPlacedFinding text))
text_placed text place (Err e) w = tt
text_placed text place (Ok None) w = absurd w
text_placed text place (Ok (Some f)) w =
    subst (λ (q : Option Place). MatchOption q (HasNoPlace text f.finding.location) (IsPlaceOf text f.finding.location)) (sym w.1) (subst (λ (x : FindingLocation). IsPlaceOf text x place) (sym w.0) refl)

-- one with another number
pub text_unfound : (number : ℕ) (text : List ℕ) (r : TextRefusal) → IsTextRefusal text r → (fault_number r.refusal.fault ≡ number → ⊥) → IsSilentOfText number text
text_unfound number text r h n =
    let w = finds-numbered text r (fault_number r.refusal.fault) h refl in
    inr (w.0, r.place, λ e. n (same-number (fault_number r.refusal.fault) number (sym w.1 ∙ e)), w.2)
  where
    same-number : (a b : ℕ) → some_number a ≡ some_number b → a ≡ b
    same-number a b e = cc

-- what is found in the deployment
pub deployment_found :
    (n : ℕ) (plan rows : Option (List ℕ)) (o : Option PlacedFinding) (r : PlacedFinding) → o ≡ Some r
    → MatchOption o (IfSome plan (IsSilentOfDeployment n)) (λ r. FindsInDeployment n plan r.finding.location) → FindsInBytes n plan rows r.finding.location
deployment_found n plan rows o r is finds = inl (MatchOption-at_some (IfSome plan (IsSilentOfDeployment n)) (λ (r : PlacedFinding). FindsInDeployment n plan r.finding.location) r is finds)

-- what is found in the stimuli, where nothing is in the deployment
pub stimuli_found :
    {E : Type 0} (n : ℕ) (plan rows : Option (List ℕ)) (o : Option PlacedFinding) (made : Result (Option PlacedFinding) E) → o ≡ None
    → MatchOption o (IfSome plan (IsSilentOfDeployment n)) (λ r. FindsInDeployment n plan r.finding.location)
    → IfOk made (λ o. MatchOption o (IfSome rows (IsSilentOfStimuli n)) (λ r. FindsInStimuli n rows r.finding.location))
    → IfOk made (λ o. MatchOption o (IsSilentOfBytes n plan rows) (λ r. FindsInBytes n plan rows r.finding.location))
stimuli_found n plan rows o (Err e) none silent finds = tt
stimuli_found n plan rows o (Ok (Some r)) none silent finds = inr finds
stimuli_found n plan rows o (Ok None) none silent finds =
    (MatchOption-at_none (IfSome plan (IsSilentOfDeployment n)) (λ (r : PlacedFinding). FindsInDeployment n plan r.finding.location) none silent, finds)

-- The findings of one number: all locations at which it applies, and the first of them (this project's own).
use Rattle.std.specs.Prelude.{◌≡◌, ◌≤◌, ◌⊎◌, ℕ, false, List, [], Option, All, MatchOption, map, take, length, nat_lt}
use Rattle.std.specs.Option.{option_to_list}
use Rattle.fb_read.specs.Whole.{IsLibraryText}
use Rattle.fb_types.specs.declared.deploy.Plan.{Plan}
use Rattle.fb_types.specs.declared.deploy.Stimulus.{Stimulus}
use Rattle.fb_types.specs.declared.library.Library.{Library}
use Rattle.fb_types.specs.Accepted.{IsLeastFault}
use Rattle.fb_check_names.specs.TwiceLists.{twice_all}
use Rattle.fb_check.specs.Faults.{number_of}
use Rattle.fb_check.specs.Refusals as refusal
use Rattle.fb_check.specs.types.Unknowns.{unknown_all}
use Rattle.fb_check.specs.declared.fault.Fault.{Fault}
use Rattle.fb_check.specs.declared.fault.Fault.TheVariants as check
use Rattle.fb_check.specs.declared.location.Location.{Location}
use Rattle.fb_check.specs.declared.location.Location.TheVariants as at
use Rattle.fb_why.specs.Causes.{IsCause}
use Rattle.fb_why.specs.Roots.{roots_of}
use Rattle.fb_why.specs.Findings.{AppliesAt, AppliesNowhere, AreFed, Finds, FindsOf, IsPlan, IsSilent, IsSilentOf, IsUnread}
use Rattle.fb_why.specs.declared.cause.Cause.{Cause}
use Rattle.fb_why.specs.declared.cause.Cause.TheVariants as cause
use Rattle.fb_why.specs.declared.listing.Findings.{Findings}
use Rattle.fb_why.specs.declared.location.FindingLocation.{FindingLocation}
use Rattle.fb_why.specs.declared.location.FindingLocation.TheVariants.{Check}
use Rattle.fb_why.specs.declared.place.PlacedFinding.{PlacedFinding}

-- the greatest number of findings that are shown
abbrev pub most_findings : ℕ
most_findings = 20

abbrev pub locations_of : Findings → List FindingLocation
locations_of f = map (λ r. r.finding.location) f.shown.items

-- ---- Inputs that are read

-- these are all locations of the number; of types that are too high and of limits one is listed at most, of a stimulus one
-- fault, and those of the others are all if the check refuses for this fault first; of unknown names those are left out
-- that follow from an unknown type
abbrev pub AreAll : Fault → Library → Plan → List Stimulus → List Location → Type 0
AreAll check.NameTwice lib plan stimuli found = found ≡ map (λ p. at.NameTwice p) (twice_all lib plan)
AreAll check.NameUnknown lib plan stimuli found = IsLeastFault 21 lib plan stimuli → found ≡ roots_of lib (map (λ p. at.NameUnknown p) (unknown_all lib plan))
AreAll check.TooHigh lib plan stimuli found = length found ≤ 1
AreAll check.OverLimit lib plan stimuli found = length found ≤ 1
AreAll flaw lib plan stimuli found = IsLeastFault (number_of flaw) lib plan stimuli → refusal.AreAll lib plan stimuli flaw found

-- The refusal applies at each of these locations, and nowhere if there is none.
pub record AreLocations (flaw : Fault) (lib : Library) (plan : Plan) (stimuli : List Stimulus) (found : List Location) : Type 0 where
  pub each : All (AppliesAt flaw lib plan stimuli) found
  pub none : found ≡ [] → AppliesNowhere flaw lib plan stimuli
  pub all : AreAll flaw lib plan stimuli found

-- They were read, and the first of their locations are shown.
pub record AreShown (flaw : Fault) (declaration : List ℕ) (deploy stimuli : Option (List ℕ)) (f : Findings) : Type 0 where
  pub library : Library
  pub plan : Plan
  pub list : List Stimulus
  pub locations : List Location
  pub read : IsLibraryText declaration library
  pub planned : IsPlan deploy plan
  pub fed : AreFed flaw stimuli list
  pub are : AreLocations flaw library plan list locations
  pub shown : locations_of f ≡ map (λ p. Check p) (take most_findings locations)
  pub more : f.more ≡ nat_lt most_findings (length locations)

-- They can't be read, and nothing is shown.
pub record AreUnread (flaw : Fault) (declaration : List ℕ) (deploy stimuli : Option (List ℕ)) (f : Findings) : Type 0 where
  pub nothing : f.shown.items ≡ []
  pub no_more : f.more ≡ false
  pub unread : IsUnread flaw declaration deploy stimuli

abbrev pub AreFlaws : Fault → (declaration : List ℕ) → (deploy stimuli : Option (List ℕ)) → Findings → Type 0
AreFlaws flaw declaration deploy stimuli f = AreShown flaw declaration deploy stimuli f ⊎ AreUnread flaw declaration deploy stimuli f

-- ---- By the number

-- the only finding, or none
pub record AreOne (c : Cause) (number : ℕ) (declaration : List ℕ) (deploy stimuli : Option (List ℕ)) (f : Findings) : Type 0 where
  pub found : Option PlacedFinding
  pub shown : f.shown.items ≡ option_to_list found
  pub no_more : f.more ≡ false
  pub finds : MatchOption found (IsSilentOf c number declaration deploy stimuli) (λ r. FindsOf c number declaration deploy stimuli r.finding.location)

-- what is shown for this cause
abbrev pub AreFoundBy : Cause → (number : ℕ) → (declaration : List ℕ) → (deploy stimuli : Option (List ℕ)) → Findings → Type 0
AreFoundBy (cause.Check flaw) number declaration deploy stimuli f = AreFlaws flaw declaration deploy stimuli f
AreFoundBy c number declaration deploy stimuli f = AreOne c number declaration deploy stimuli f

-- What is shown for the refusal with this number. It applies at each of the locations.
pub record AreFound (declaration : List ℕ) (deploy stimuli : Option (List ℕ)) (number : ℕ) (f : Findings) : Type 0 where
  pub by_cause : Cause
  pub is_cause : IsCause number by_cause
  pub found : AreFoundBy by_cause number declaration deploy stimuli f
  pub each : All (Finds declaration deploy stimuli number) (locations_of f)
  pub none : f.shown.items ≡ [] → IsSilent declaration deploy stimuli number

-- Where a refusal applies to the bytes that were given (this project's own).
use Rattle.std.specs.Prelude.{◌≡◌, ◌≢◌, ◌⊎◌, ℕ, Bool, true, false, List, Option, Some, None, Ok, Err, [], IfSome, MatchOption}
use Rattle.fb_inputs.specs.Deployments.{deploy_of}
use Rattle.fb_inputs.specs.Stimuli as inputs
use Rattle.fb_read.specs.Whole.{IsLibraryText}
use Rattle.fb_read.specs.declared.error.ReadError.{ReadError}
use Rattle.fb_types.specs.Accepted.{IsLeastFault}
use Rattle.fb_types.specs.Joined.{TooHigh}
use Rattle.fb_types.specs.Limits.{single}
use Rattle.fb_types.specs.Repeated.{NameTwice}
use Rattle.fb_types.specs.declared.deploy.Plan.{Plan}
use Rattle.fb_types.specs.declared.deploy.Stimulus.{Stimulus}
use Rattle.fb_types.specs.declared.library.Library.{Library}
use Rattle.fb_check.specs.Faults.{number_of as check_number}
use Rattle.fb_why.specs.Causes.{IsCause, is_of_stimuli}
use Rattle.fb_read.specs.Errors.{number_of}
use Rattle.fb_check.specs.types.Unknown.{IsUnknownAt}
use Rattle.fb_why.specs.declared.cause.Cause.TheVariants as cause
use Rattle.fb_why.specs.declared.cause.Cause.{Cause}
use Rattle.fb_check.specs.declared.fault.Fault.TheVariants as check
use Rattle.fb_check.specs.declared.fault.Fault.{Fault}
use Rattle.fb_why.specs.declared.place.PlacedFinding.{PlacedFinding}
use Rattle.fb_check.specs.declared.location.Location.{Location}
use Rattle.fb_check.specs.declared.location.Location.TheVariants as at
use Rattle.fb_why.specs.declared.location.FindingLocation.{FindingLocation}
use Rattle.fb_why.specs.declared.location.FindingLocation.TheVariants as found
use Rattle.fb_check.specs.networks.Heights.{IsTooHighAt}
use Rattle.fb_check.specs.networks.Sources.{IsTwoSourcesAt}
use Rattle.fb_check_names.specs.Twice.{IsTwiceAt}
use Rattle.fb_check.specs.networks.Links.{IsNoLinkAt}
use Rattle.fb_check.specs.networks.NotMapped.{IsNotMappedAt}
use Rattle.fb_check.specs.networks.NoEvent.{IsNoEventAt}
use Rattle.fb_inputs.specs.Faults as rows
use Rattle.fb_inputs.specs.Faults.{AreTaken}
use Rattle.fb_inputs.specs.StimuliLocations.{number_at}
use Rattle.fb_inputs.specs.DeployFaults as tables
use Rattle.fb_inputs.specs.DeployFaults.{IsPlanned}
use Rattle.fb_inputs.specs.DeployLocations as locations
use Rattle.fb_check.specs.Stimuli.{IsBadAt, IsOver}
use Rattle.fb_why.specs.Faults.{FindsFault}
use Rattle.fb_read_positions.specs.declared.places.Place.{Place}
use Rattle.fb_inputs.specs.declared.deploy_location.DeployLocation.{DeployLocation}
use Rattle.fb_inputs.specs.declared.location.StimuliLocation.{StimuliLocation}
use Rattle.fb_check.specs.types.KindsWrong.{IsKindWrongAt}
use Rattle.fb_check.specs.networks.OutOfRange.{IsOutOfRangeAt}

-- ---- What is found

-- it is found at this location, with this place
abbrev pub IsFoundAt : FindingLocation → Option Place → Option PlacedFinding → Type 0
IsFoundAt location place o = MatchOption o ⊥ (λ r. (r.finding.location ≡ location) × (r.place ≡ place))

-- ---- What is read

-- no library has the text
abbrev pub IsNoText : List ℕ → Type 0
IsNoText text = (library : Library) → IsLibraryText text library → ⊥

-- the plan of a deployment: if none is given, one resource that holds every instance
abbrev pub IsPlan : Option (List ℕ) → Plan → Type 0
IsPlan None plan = plan ≡ single
IsPlan (Some bytes) plan = deploy_of bytes ≡ Ok plan

-- the deployment is refused
abbrev pub IsNoPlan : Option (List ℕ) → Type 0
IsNoPlan None = ⊥
IsNoPlan (Some bytes) = (n : ℕ) × (deploy_of bytes ≡ Err n)

-- The stimuli: if none are given, there are none.
abbrev pub AreStimuli : Option (List ℕ) → List Stimulus → Type 0
AreStimuli None stimuli = stimuli ≡ []
AreStimuli (Some bytes) stimuli = inputs.stimuli_of bytes ≡ Ok stimuli

-- the stimuli are refused
abbrev pub AreNoStimuli : Option (List ℕ) → Type 0
AreNoStimuli None = ⊥
AreNoStimuli (Some bytes) = (n : ℕ) × (inputs.stimuli_of bytes ≡ Err n)

-- the stimuli that are given, for a refusal that is about them; for another none
abbrev pub AreFedIf : Bool → Option (List ℕ) → List Stimulus → Type 0
AreFedIf true given stimuli = AreStimuli given stimuli
AreFedIf false given stimuli = stimuli ≡ []

abbrev pub AreFed : Fault → Option (List ℕ) → List Stimulus → Type 0
AreFed flaw given stimuli = AreFedIf (is_of_stimuli flaw) given stimuli

-- a refusal is about the stimuli, which are refused
abbrev pub AreNotFedIf : Bool → Option (List ℕ) → Type 0
AreNotFedIf true given = AreNoStimuli given
AreNotFedIf false given = ⊥

abbrev pub AreNotFed : Fault → Option (List ℕ) → Type 0
AreNotFed flaw given = AreNotFedIf (is_of_stimuli flaw) given

-- ---- Inputs that are read

-- The refusal applies at this location.
abbrev pub AppliesAt : Fault → Library → Plan → List Stimulus → Location → Type 0
AppliesAt check.NameTwice lib plan stimuli (at.NameTwice p) = IsTwiceAt lib plan p
AppliesAt check.NameUnknown lib plan stimuli (at.NameUnknown p) = IsUnknownAt lib plan p
AppliesAt check.KindWrong lib plan stimuli (at.KindWrong p) = IsKindWrongAt lib p
AppliesAt check.OutOfRange lib plan stimuli (at.OutOfRange p) = IsOutOfRangeAt lib p
AppliesAt check.TwoSources lib plan stimuli (at.TwoSources p) = IsTwoSourcesAt lib p
AppliesAt check.TooHigh lib plan stimuli (at.TooHigh p) = IsTooHighAt lib p
AppliesAt check.NotMapped lib plan stimuli (at.NotMapped p) = IsNotMappedAt lib plan p
AppliesAt check.NoLink lib plan stimuli (at.NoLink p) = IsNoLinkAt lib plan p
AppliesAt check.NoEvent lib plan stimuli (at.NoEvent p) = IsNoEventAt lib plan p
AppliesAt check.BadStimulus lib plan stimuli (at.BadStimulus p) = IsBadAt lib stimuli p
AppliesAt check.OverLimit lib plan stimuli (at.OverLimit l) = IsOver lib stimuli l
AppliesAt _ lib plan stimuli _ = ⊥

-- The refusal applies nowhere; for one whose locations the check lists, it is not the first that applies.
abbrev pub AppliesNowhere : Fault → Library → Plan → List Stimulus → Type 0
AppliesNowhere check.NameTwice lib plan stimuli = ¬ (NameTwice lib plan)
AppliesNowhere flaw lib plan stimuli = ¬ (IsLeastFault (check_number flaw) lib plan stimuli)

-- They were read, and the refusal applies to them at this location.
pub record FindsFlaw (flaw : Fault) (declaration : List ℕ) (deploy stimuli : Option (List ℕ)) (location : Location) : Type 0 where
  pub library : Library
  pub plan : Plan
  pub list : List Stimulus
  pub read : IsLibraryText declaration library
  pub planned : IsPlan deploy plan
  pub fed : AreFed flaw stimuli list
  pub applies : AppliesAt flaw library plan list location

abbrev pub FindsInInputs : Fault → (declaration : List ℕ) → (deploy stimuli : Option (List ℕ)) → FindingLocation → Type 0
FindsInInputs flaw declaration deploy stimuli (found.Check location) = FindsFlaw flaw declaration deploy stimuli location
FindsInInputs flaw declaration deploy stimuli _ = ⊥

-- They were read, and the refusal does not apply to them.
pub record IsFlawless (flaw : Fault) (declaration : List ℕ) (deploy stimuli : Option (List ℕ)) : Type 0 where
  pub library : Library
  pub plan : Plan
  pub list : List Stimulus
  pub read : IsLibraryText declaration library
  pub planned : IsPlan deploy plan
  pub fed : AreFed flaw stimuli list
  pub nowhere : AppliesNowhere flaw library plan list

-- One of those that the refusal is about can't be read.
abbrev pub IsUnread : Fault → (declaration : List ℕ) → (deploy stimuli : Option (List ℕ)) → Type 0
IsUnread flaw declaration deploy stimuli = IsNoText declaration ⊎ IsNoPlan deploy ⊎ AreNotFed flaw stimuli

-- The refusal does not apply to them, or they can't be read.
abbrev pub HasNoFlaw : Fault → (declaration : List ℕ) → (deploy stimuli : Option (List ℕ)) → Type 0
HasNoFlaw flaw declaration deploy stimuli = IsFlawless flaw declaration deploy stimuli ⊎ IsUnread flaw declaration deploy stimuli

-- ---- The text of the declaration

-- A fault of the text has this number, and applies at this location.
abbrev pub FindsInText : (number : ℕ) → (declaration : List ℕ) → FindingLocation → Type 0
FindsInText number declaration (found.Text p) = (fault : ReadError) × (number_of fault ≡ Some number) × FindsFault declaration fault p
FindsInText number declaration _ = ⊥

-- The text declares a library, or is refused with another number.
abbrev pub IsSilentOfText : (number : ℕ) → (declaration : List ℕ) → Type 0
IsSilentOfText number declaration =
    ((library : Library) × IsLibraryText declaration library) ⊎ ((fault : ReadError) × (place : Place) × (number_of fault ≡ Some number → ⊥) × FindsFault declaration fault place)

-- ---- The bytes of the deployment and of the stimuli

-- The deployment is refused with this number, for what is reported of the location.
abbrev pub IsDeploymentLocation : (number : ℕ) → (bytes : List ℕ) → FindingLocation → Type 0
IsDeploymentLocation number bytes (found.Deployment p) = (locations.number_at p ≡ number) × tables.IsRefusedAt bytes p
IsDeploymentLocation number bytes _ = ⊥

-- The stimuli are refused with this number, for what is reported of the location.
abbrev pub IsStimuliLocation : (number : ℕ) → (bytes : List ℕ) → FindingLocation → Type 0
IsStimuliLocation number bytes (found.Stimuli p) = (number_at p ≡ number) × rows.IsRefusedAt bytes p
IsStimuliLocation number bytes _ = ⊥

-- The deployment is given, and what has this number is wrong at the location.
abbrev pub FindsInDeployment : (number : ℕ) → Option (List ℕ) → FindingLocation → Type 0
FindsInDeployment number deploy location = (bytes : List ℕ) × (deploy ≡ Some bytes) × IsDeploymentLocation number bytes location

-- The stimuli are given, and refused with this number for what is reported of the location.
abbrev pub FindsInStimuli : (number : ℕ) → Option (List ℕ) → FindingLocation → Type 0
FindsInStimuli number stimuli location = (bytes : List ℕ) × (stimuli ≡ Some bytes) × IsStimuliLocation number bytes location

abbrev pub FindsInBytes : (number : ℕ) → (deploy stimuli : Option (List ℕ)) → FindingLocation → Type 0
FindsInBytes number deploy stimuli location = FindsInDeployment number deploy location ⊎ FindsInStimuli number stimuli location

-- The deployment is refused with another number, for what is wrong at a location.
pub record IsRefusedOtherwise (number : ℕ) (bytes : List ℕ) : Type 0 where
  pub location : DeployLocation
  pub differs : locations.number_at location ≢ number
  pub refused : tables.IsRefusedAt bytes location

-- The stimuli are refused with another number, for what is wrong at a location.
pub record AreRefusedOtherwise (number : ℕ) (bytes : List ℕ) : Type 0 where
  pub location : StimuliLocation
  pub differs : number_at location ≢ number
  pub refused : rows.IsRefusedAt bytes location

-- The deployment is accepted, or refused with another number.
abbrev pub IsSilentOfDeployment : (number : ℕ) → (bytes : List ℕ) → Type 0
IsSilentOfDeployment number bytes = IsPlanned bytes ⊎ IsRefusedOtherwise number bytes

-- The stimuli are accepted, or refused with another number.
abbrev pub IsSilentOfStimuli : (number : ℕ) → (bytes : List ℕ) → Type 0
IsSilentOfStimuli number bytes = AreTaken bytes ⊎ AreRefusedOtherwise number bytes

-- The same for the deployment and for the stimuli, for each that is given.
abbrev pub IsSilentOfBytes : (number : ℕ) → (deploy stimuli : Option (List ℕ)) → Type 0
IsSilentOfBytes number deploy stimuli = IfSome deploy (IsSilentOfDeployment number) × IfSome stimuli (IsSilentOfStimuli number)

-- ---- By the number

-- What is refused with this number applies at this location.
abbrev pub FindsOf : Cause → (number : ℕ) → (declaration : List ℕ) → (deploy stimuli : Option (List ℕ)) → FindingLocation → Type 0
FindsOf cause.Text number declaration deploy stimuli location = FindsInText number declaration location
FindsOf cause.Bytes number declaration deploy stimuli location = FindsInBytes number deploy stimuli location
FindsOf (cause.Check flaw) number declaration deploy stimuli location = FindsInInputs flaw declaration deploy stimuli location
FindsOf cause.Other number declaration deploy stimuli location = ⊥

-- Nothing is reported if the refusal does not apply, or if something can't be read or is refused with another number.
abbrev pub IsSilentOf : Cause → (number : ℕ) → (declaration : List ℕ) → (deploy stimuli : Option (List ℕ)) → Type 0
IsSilentOf cause.Text number declaration deploy stimuli = IsSilentOfText number declaration
IsSilentOf cause.Bytes number declaration deploy stimuli = IsSilentOfBytes number deploy stimuli
IsSilentOf (cause.Check flaw) number declaration deploy stimuli = HasNoFlaw flaw declaration deploy stimuli
IsSilentOf cause.Other number declaration deploy stimuli = Unit {0}

-- The refusal with this number applies at this location.
abbrev pub Finds : (declaration : List ℕ) → (deploy stimuli : Option (List ℕ)) → (number : ℕ) → FindingLocation → Type 0
Finds declaration deploy stimuli number location = (cause : Cause) × IsCause number cause × FindsOf cause number declaration deploy stimuli location

-- No location is reported.
abbrev pub IsSilent : (declaration : List ℕ) → (deploy stimuli : Option (List ℕ)) → (number : ℕ) → Type 0
IsSilent declaration deploy stimuli number = (cause : Cause) × IsCause number cause × IsSilentOf cause number declaration deploy stimuli

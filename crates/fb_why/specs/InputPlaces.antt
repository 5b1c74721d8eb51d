-- Where a location is in the deployment or in the stimuli (this project's own).
use Rattle.std.specs.Prelude.{◌≡◌, ◌⊎◌, ℕ, ◌+◌, ◌-◌, nat_lt, Bool, true, false, if◌then◌else◌, List, [], ◌∷◌, length, Option, Some, None, Ok, MatchOption}
use Rattle.fb_types.specs.declared.deploy.Plan.{Plan}
use Rattle.fb_types.specs.declared.deploy.ResourceEntry.{ResourceEntry}
use Rattle.fb_read.specs.declared.token.Span.{Span}
use Rattle.fb_inputs.specs.Deployments.{deploy_of}
use Rattle.fb_inputs.specs.NearSpans.{IsNearInStimuli}
use Rattle.fb_inputs.specs.declared.deploy_location.DeployKey.{DeployKey}
use Rattle.fb_inputs.specs.declared.deploy_location.DeployKey.TheVariants as key
use Rattle.fb_inputs.specs.declared.deploy_location.DeployLocation.{DeployLocation}
use Rattle.fb_inputs.specs.declared.deploy_location.DeployLocation.TheVariants as in_document
use Rattle.fb_inputs.specs.declared.deploy_location.TableFault.TheVariants as why
use Rattle.fb_inputs.specs.declared.deploy_location.TableLocation.{TableLocation}
use Rattle.fb_inputs.specs.declared.deploy_location.TableLocation.TheVariants as table
use Rattle.fb_read_positions.specs.Places.{IsPlace, IsStretch}
use Rattle.fb_inputs.specs.Positions.{deploy_position, stimuli_position}
use Rattle.fb_inputs.specs.declared.position.DeployPosition.TheVariants as in_deploy
use Rattle.fb_inputs.specs.declared.position.StimuliPosition.{StimuliPosition}
use Rattle.fb_inputs.specs.declared.position.StimuliPosition.TheVariants as in_stimuli
use Rattle.fb_deploy_positions.specs.Entries.{IsNear}
use Rattle.fb_why.specs.FurtherKeys.{further_span}
use Rattle.fb_why.specs.InputStretches.{IsOutside, IsPlaceOfSome, IsSomeOutside}
use Rattle.fb_check_names.specs.declared.location.Side.{Side}
use Rattle.fb_check_names.specs.declared.location.Side.TheVariants as side
use Rattle.fb_check_names.specs.declared.location.UnknownName.{UnknownName}
use Rattle.fb_check_names.specs.declared.location.UnknownName.TheVariants as unknown
use Rattle.fb_why.specs.declared.input_place.InputPosition.{InputPosition}
use Rattle.fb_why.specs.declared.input_place.InputPosition.TheVariants as input
use Rattle.fb_check.specs.declared.location.Limit.TheVariants as limit
use Rattle.fb_check.specs.declared.location.StimulusFault.{StimulusFault}
use Rattle.fb_check.specs.declared.location.StimulusFault.TheVariants as fault
use Rattle.fb_check.specs.declared.location.StimulusLocation.{StimulusLocation}
use Rattle.fb_why.specs.declared.input_place.InputFile.{InputFile}
use Rattle.fb_why.specs.declared.input_place.InputFile.TheVariants as file
use Rattle.fb_why.specs.declared.input_place.InputPlace.{InputPlace}
use Rattle.fb_why.specs.declared.place.PlacedFinding.{PlacedFinding}
use Rattle.fb_check.specs.declared.location.Location.{Location}
use Rattle.fb_check.specs.declared.location.Location.TheVariants as at
use Rattle.fb_why.specs.declared.location.FindingLocation.{FindingLocation}
use Rattle.fb_why.specs.declared.location.FindingLocation.TheVariants as found
use Rattle.fb_check_names.specs.declared.twice.GivenTwice.{GivenTwice}
use Rattle.fb_check_names.specs.declared.twice.GivenTwice.TheVariants as given
use Rattle.fb_check_names.specs.declared.location.NotMappedAt.{NotMappedAt}
use Rattle.fb_check_names.specs.declared.location.NotMappedAt.TheVariants as not_mapped

abbrev pub Text : Type 0
Text = List ℕ

-- ---- Bytes

-- The bytes are those of the first key of the table, by the reader of TOML, that the table may not have. If this key is not
-- found, they are those of the table.
abbrev pub IsFurtherAt : Text → TableLocation → Span → Type 0
IsFurtherAt text t span = MatchOption (further_span text t) (IsNear text (in_deploy.Table t) span) (λ key. span ≡ key)

-- The bytes are at the position of the text, or at the nearest one around it that has any.
abbrev pub IsInInput : Text → InputPosition → Span → Type 0
IsInInput text (input.Deployment position) span = IsNear text position span
IsInInput text (input.Further t) span = IsFurtherAt text t span
IsInInput text (input.Stimuli position) span = IsNearInStimuli text position span

-- ---- Positions

-- an instance that a resource lists
abbrev pub listed : (resource instance : ℕ) → InputPosition
listed resource instance = input.Deployment (in_deploy.Element (table.Resource resource) key.Instances instance)

-- the key for an end of a link
abbrev pub key_of : Side → DeployKey
key_of side.From = key.From
key_of side.To = key.To

-- a name of a deployment that is unknown
abbrev pub unknown_position : UnknownName → Option InputPosition
unknown_position (unknown.Mapped r i) = Some (listed r i)
unknown_position (unknown.LinkEnd l s) = Some (input.Deployment (in_deploy.Key (table.Link l) (key_of s)))
unknown_position _ = None

-- what is given twice in a deployment, at its later occurrence
abbrev pub twice_position : GivenTwice → Option InputPosition
twice_position (given.Resource pair) = Some (input.Deployment (in_deploy.Key (table.Resource pair.1) key.Name))
twice_position (given.Link pair) = Some (input.Deployment (in_deploy.Table (table.Link pair.1)))
twice_position _ = None

-- the event of a stimulus, or the word
abbrev pub fault_position : (row : ℕ) → StimulusFault → StimuliPosition
fault_position row fault.Event = in_stimuli.Field row 1
fault_position row (fault.Setting word) = in_stimuli.Word row word
fault_position row (fault.Twice word) = in_stimuli.Word row word

abbrev pub stimulus_position : StimulusLocation → StimuliPosition
stimulus_position location = fault_position location.row location.fault

-- The position at which a location of the check is shown, if it is one in the deployment or in the stimuli. For an instance
-- that is not mapped the deployment says where it is.
abbrev pub checked_position : Location → Option InputPosition
checked_position (at.NameTwice what) = twice_position what
checked_position (at.NameUnknown name) = unknown_position name
checked_position (at.BadStimulus location) = Some (input.Stimuli (stimulus_position location))
checked_position (at.OverLimit limit.Stimuli) = Some (input.Stimuli in_stimuli.Start)
checked_position _ = None

-- the position in the stimuli; for one elsewhere it is their beginning
abbrev pub row_of : Option InputPosition → StimuliPosition
row_of (Some (input.Stimuli position)) = position
row_of (Some (input.Deployment position)) = in_stimuli.Start
row_of (Some (input.Further t)) = in_stimuli.Start
row_of None = in_stimuli.Start

-- the position of the name at an index in the lists of resources, one after another, by the index of the first one
unfoldable pub listed_at : ℕ → List ResourceEntry → ℕ → Option InputPosition
listed_at r [] index = None
listed_at r (x ∷ xs) index =
    if nat_lt index (length x.instances) then Some (listed r index) else listed_at (r + 1) xs (index - length x.instances)

-- The position is that of the name at an index in the lists of the deployment.
abbrev pub IsListedIn : (deploy : Option Text) → (index : ℕ) → InputPosition → Type 0
IsListedIn deploy index position =
    (bytes : Text) × (plan : Plan) × (deploy ≡ Some bytes) × (deploy_of bytes ≡ Ok plan) × (listed_at 0 plan.resources index ≡ Some position)

-- the deployment has no name at the index in its lists
abbrev pub IsNotListed : (deploy : Option Text) → (index : ℕ) → Type 0
IsNotListed deploy index = (position : InputPosition) → IsListedIn deploy index position → ⊥

-- An instance that is listed twice is shown at the later name, and one that is not listed nowhere.
abbrev pub IsNotMappedPosition : (deploy : Option Text) → NotMappedAt → InputPosition → Type 0
IsNotMappedPosition deploy (not_mapped.Again pair) position = IsListedIn deploy pair.1 position
IsNotMappedPosition deploy (not_mapped.Unlisted i) position = ⊥

abbrev pub HasNotMappedNone : (deploy : Option Text) → NotMappedAt → Type 0
HasNotMappedNone deploy (not_mapped.Again pair) = IsNotListed deploy pair.1
HasNotMappedNone deploy (not_mapped.Unlisted i) = Unit {0}

abbrev pub IsCheckedPosition : (deploy : Option Text) → Location → InputPosition → Type 0
IsCheckedPosition deploy (at.NotMapped p) position = IsNotMappedPosition deploy p position
IsCheckedPosition deploy location position = checked_position location ≡ Some position

abbrev pub HasCheckedNone : (deploy : Option Text) → Location → Type 0
HasCheckedNone deploy (at.NotMapped p) = HasNotMappedNone deploy p
HasCheckedNone deploy location = checked_position location ≡ None

-- where a deployment is refused; for a key that its table may not have it is that key
abbrev pub refused_position : DeployLocation → InputPosition
refused_position (in_document.Shape t why.Further) = input.Further t
refused_position location = input.Deployment (deploy_position location)

-- The location is shown at the position.
abbrev pub IsInputPosition : (deploy : Option Text) → FindingLocation → InputPosition → Type 0
IsInputPosition deploy (found.Text place) position = ⊥
IsInputPosition deploy (found.Check location) position = IsCheckedPosition deploy location position
IsInputPosition deploy (found.Deployment location) position = position ≡ refused_position location
IsInputPosition deploy (found.Stimuli location) position = position ≡ input.Stimuli (stimuli_position location)

-- The location is shown at no position in the deployment or in the stimuli.
abbrev pub HasNoInputPosition : (deploy : Option Text) → FindingLocation → Type 0
HasNoInputPosition deploy (found.Text place) = Unit {0}
HasNoInputPosition deploy (found.Check location) = HasCheckedNone deploy location
HasNoInputPosition deploy (found.Deployment location) = ⊥
HasNoInputPosition deploy (found.Stimuli location) = ⊥

-- ---- Places

-- the input that has the position
abbrev pub file_of : InputPosition → InputFile
file_of (input.Deployment position) = file.Deployment
file_of (input.Further t) = file.Deployment
file_of (input.Stimuli position) = file.Stimuli

-- its text, if it is given
abbrev pub text_for : (deploy stimuli : Option Text) → InputFile → Option Text
text_for deploy stimuli file.Deployment = deploy
text_for deploy stimuli file.Stimuli = stimuli

-- The input is given, and the place is that of the position in it.
pub record IsPlaceIn (deploy stimuli : Option Text) (position : InputPosition) (place : InputPlace) : Type 0 where
  pub text : Text
  pub is_given : text_for deploy stimuli (file_of position) ≡ Some text
  pub is_in : place.file ≡ file_of position
  pub is_there : IsPlaceOfSome (IsInInput text position) text place.at

-- The input is given, and the bytes at the position are not in its text.
pub record IsOutsideInput (deploy stimuli : Option Text) (position : InputPosition) : Type 0 where
  pub text : Text
  pub is_given : text_for deploy stimuli (file_of position) ≡ Some text
  pub outside : IsSomeOutside (IsInInput text position) text

-- A position has no place: the input is not given, or its bytes are not in the text.
abbrev pub HasNoPlaceIn : (deploy stimuli : Option Text) → InputPosition → Type 0
HasNoPlaceIn deploy stimuli position = (text_for deploy stimuli (file_of position) ≡ None) ⊎ IsOutsideInput deploy stimuli position

-- The place is that of these bytes of the input that is given.
pub record AreBytesOf (in_file : InputFile) (given : Option Text) (span : Span) (place : InputPlace) : Type 0 where
  pub text : Text
  pub is_given : given ≡ Some text
  pub is_in : place.file ≡ in_file
  pub there : IsStretch span.start span.end place.at
  pub located : IsPlace text place.at

-- The input is not given, or these bytes are not in it.
abbrev pub HasNoBytes : (given : Option Text) → Span → Type 0
HasNoBytes given span = (given ≡ None) ⊎ ((text : Text) × (given ≡ Some text) × IsOutside text span)

-- the position is in the deployment
abbrev pub is_in_deployment : Option InputPosition → Bool
is_in_deployment (Some (input.Deployment position)) = true
is_in_deployment (Some (input.Further t)) = true
is_in_deployment (Some (input.Stimuli position)) = false
is_in_deployment None = false

-- This text is the deployment, if the position is in one that is given.
abbrev pub IsReadFor : (deploy : Option Text) → (text : Text) → Option InputPosition → Type 0
IsReadFor deploy text position = is_in_deployment position ≡ true → (bytes : Text) → deploy ≡ Some bytes → text ≡ bytes

-- The bytes are at the position, or near it, in the stimuli that are given.
abbrev pub IsNearIn : (stimuli : Option Text) → StimuliPosition → Span → Type 0
IsNearIn None position span = Unit {0}
IsNearIn (Some bytes) position span = IsNearInStimuli bytes position span

-- The place is that of the position, and there is none only if the position has none.
abbrev pub IsPlaceFor : (deploy stimuli : Option Text) → Option InputPosition → Option InputPlace → Type 0
IsPlaceFor deploy stimuli None place = place ≡ None
IsPlaceFor deploy stimuli (Some position) place = MatchOption place (HasNoPlaceIn deploy stimuli position) (IsPlaceIn deploy stimuli position)

-- The finding is shown at the position, and there is none only if it is shown at none.
abbrev pub IsShownAt : (deploy : Option Text) → PlacedFinding → Option InputPosition → Type 0
IsShownAt deploy x position = MatchOption position (HasNoInputPosition deploy x.finding.location) (IsInputPosition deploy x.finding.location)

-- The place is that of the position at which the location is shown.
abbrev pub IsInputPlace : (deploy stimuli : Option Text) → FindingLocation → InputPlace → Type 0
IsInputPlace deploy stimuli location place =
    (position : InputPosition) × IsInputPosition deploy location position × IsPlaceIn deploy stimuli position place

-- The location is shown at no position in the deployment or in the stimuli, or this has no place.
abbrev pub HasNoInputPlace : (deploy stimuli : Option Text) → FindingLocation → Type 0
HasNoInputPlace deploy stimuli location =
    HasNoInputPosition deploy location ⊎ ((position : InputPosition) × IsInputPosition deploy location position × HasNoPlaceIn deploy stimuli position)

-- The place is that of the finding, and there is none only if the finding has none.
abbrev pub IsPlaceOf : (deploy stimuli : Option Text) → PlacedFinding → Option InputPlace → Type 0
IsPlaceOf deploy stimuli x place = MatchOption place (HasNoInputPlace deploy stimuli x.finding.location) (IsInputPlace deploy stimuli x.finding.location)

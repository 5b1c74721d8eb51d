-- Places in deployments and stimuli (this project's own).
use Rattle.fb_read.specs.Blank.{Text}
use Rattle.fb_read.specs.declared.token.Span.{Span}
use Rattle.fb_inputs.specs.NearSpans.{IsNearInStimuli}
use Rattle.fb_inputs.specs.declared.position.DeployPosition.{DeployPosition}
use Rattle.fb_inputs.specs.declared.position.StimuliPosition.{StimuliPosition}
use Rattle.fb_deploy_positions.specs.Entries.{IsNear}
use Rattle.fb_read_positions.specs.Places.{IsPlace, IsStretch, IsWithin}
use Rattle.fb_read_positions.specs.declared.places.Place.{Place}

-- The place is that of such bytes, with its line and its column.
pub record IsPlaceOfSome (IsOne : Span → Type 0) (text : Text) (place : Place) : Type 0 where
  pub span : Span
  pub near : IsOne span
  pub there : IsStretch span.start span.end place
  pub located : IsPlace text place

-- The place is that of the bytes at the position, or at one around it.
abbrev pub IsDeployPlace : Text → DeployPosition → Place → Type 0
IsDeployPlace text position place = IsPlaceOfSome (IsNear text position) text place

abbrev pub IsStimuliPlace : Text → StimuliPosition → Place → Type 0
IsStimuliPlace text position place = IsPlaceOfSome (IsNearInStimuli text position) text place

-- The bytes are not in the text, after its byte order mark.
abbrev pub IsOutside : Text → Span → Type 0
IsOutside text span = IsWithin text span.start span.end → ⊥

-- Such bytes are not in the text.
pub record IsSomeOutside (IsOne : Span → Type 0) (text : Text) : Type 0 where
  pub span : Span
  pub near : IsOne span
  pub outside : IsOutside text span

-- The bytes at the position, or at one around it, are not in the text.
abbrev pub IsDeployOutside : Text → DeployPosition → Type 0
IsDeployOutside text position = IsSomeOutside (IsNear text position) text

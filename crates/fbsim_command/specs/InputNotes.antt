-- What is reported of a refusal whose place is in the deployment or in the stimuli (this project's own).
use Rattle.std.specs.Prelude.{◌≡◌, ◌⊎◌, ℕ, List, [], map, Option, Some, None, option_map, unwrap_or}
use Rattle.fb_sim.specs.Given.{Given}
use Rattle.fb_why.specs.InputPlaces.{HasNoInputPlace, IsInputPlace}
use Rattle.fb_why.specs.declared.input_place.InputFile.{InputFile}
use Rattle.fb_why.specs.declared.input_place.InputFile.TheVariants as file
use Rattle.fb_why.specs.declared.input_place.InputPlace.{InputPlace}
use Rattle.fb_why.specs.declared.location.FindingLocation.{FindingLocation}
use Rattle.fbsim_command.specs.OwnLines.{IsPlacedText}
use Rattle.fbsim_command.specs.declared.input_notes.InputNames.{InputNames}
use Rattle.fbsim_command.specs.declared.input_notes.RefusedInputs.{RefusedInputs}

-- the names that a call gives to its deployment and its stimuli
pub record FileNames : Type 0 where
  pub deploy : Option (List ℕ)
  pub stimuli : Option (List ℕ)

abbrev pub names_of : InputNames → FileNames
names_of n = record { deploy = option_map (λ d. d.now) n.deploy; stimuli = option_map (λ s. s.now) n.stimuli }

-- the names of the files of block types
abbrev pub types_in : RefusedInputs → List (List ℕ)
types_in r = map (λ t. t.now) r.types.now

-- the name of an input; it is empty where the call names none
abbrev pub name_in : FileNames → InputFile → List ℕ
name_in names file.Deployment = unwrap_or names.deploy []
name_in names file.Stimuli = unwrap_or names.stimuli []

-- The note names the file, the line and the column of the place.
abbrev pub IsNotedAt : FileNames → InputPlace → (note : List ℕ) → Type 0
IsNotedAt names place note = IsPlacedText (name_in names place.file) place.at.line place.at.column note

-- The note is that of the place, or the words where there is none.
abbrev pub IsNoteWith : FileNames → Option InputPlace → (words note : List ℕ) → Type 0
IsNoteWith names None words note = note ≡ words
IsNoteWith names (Some place) words note = IsNotedAt names place note

-- The note is that of the place of the location in the deployment or in the stimuli, or the words where it has none.
abbrev pub IsNoteThere : FileNames → Given → FindingLocation → (words note : List ℕ) → Type 0
IsNoteThere names given location words note =
    ((place : InputPlace) × IsInputPlace given.deploy given.stimuli location place × IsNotedAt names place note)
    ⊎ (HasNoInputPlace given.deploy given.stimuli location × (note ≡ words))

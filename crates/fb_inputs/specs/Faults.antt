-- What is wrong where stimuli are refused (this project's profile).
use Rattle.std.specs.Prelude.{◌≡◌, ◌≤◌, ◌<◌, ◌^◌, ℕ, List, ◌∷◌, length, true, false, Some, None, Ok, Err, slice_get}
use Rattle.csv.specs.Reading.{records, default_config, strip_bom}
use Rattle.fb_types.specs.declared.deploy.Stimulus.{Stimulus}
use Rattle.fb_inputs.specs.declared.row.Word.{Word}
use Rattle.fb_inputs.specs.declared.location.RowFault.{RowFault}
use Rattle.fb_inputs.specs.declared.location.RowFault.TheVariants as fault
use Rattle.fb_inputs.specs.declared.location.StimuliLocation.{StimuliLocation}
use Rattle.fb_inputs.specs.declared.location.StimuliLocation.TheVariants as location
use Rattle.fb_inputs.specs.Words.{Text}
use Rattle.fb_inputs.specs.Numbers.{natural}
use Rattle.fb_inputs.specs.Rows.{Row, event, words, word}
use Rattle.fb_inputs.specs.Stimuli.{three, is_head, stimuli_in, most_bytes, most_rows}

-- ---- A row

-- There are three fields, for which this holds.
abbrev pub OfFields : Row → (Text × Text × Text → Type 0) → Type 0
OfFields row P = (f : Text × Text × Text) × (three row ≡ Some f) × P f

-- There is a word at this index, for which this holds.
abbrev pub OfWord : ℕ → (Text → Type 0) → (Text × Text × Text → Type 0)
OfWord k P f = (w : Text) × (slice_get (words f.2) k ≡ Some w) × P w

-- This is wrong with the row, after this number of rows.
abbrev pub IsRowFault : ℕ → Row → RowFault → Type 0
IsRowFault before row fault.Fields = three row ≡ None
IsRowFault before row fault.Event = OfFields row (λ f. event f.1 ≡ None)
IsRowFault before row (fault.Word k) = OfFields row (OfWord k (λ w. word w ≡ None))
IsRowFault before row fault.Tick = OfFields row (λ f. natural f.0 ≡ None)
IsRowFault before row (fault.Value k) = OfFields row (OfWord k (λ w. (x : Word) × (word w ≡ Some x) × (x.value ≡ None)))
IsRowFault before row fault.Late = OfFields row (λ f. (tick : ℕ) × (natural f.0 ≡ Some tick) × (10 ^ 12 < tick))
IsRowFault before row fault.Crowded = most_rows ≤ before

-- ---- All bytes

-- The record is at this index after a heading.
pub record IsRowAt (bytes : Text) (k : ℕ) (row : Row) : Type 0 where
  pub head : Row
  pub rows : List Row
  pub read : records default_config (strip_bom bytes) ≡ head ∷ rows
  pub headed : is_head head ≡ true
  pub at_index : slice_get rows k ≡ Some row

-- The first record is no heading.
pub record HasNoHeading (bytes : Text) : Type 0 where
  pub first : Row
  pub rows : List Row
  pub read : records default_config (strip_bom bytes) ≡ first ∷ rows
  pub other : is_head first ≡ false

-- This is wrong at the location.
abbrev pub IsFaultAt : Text → StimuliLocation → Type 0
IsFaultAt bytes location.Bytes = most_bytes < length bytes
IsFaultAt bytes location.Heading = HasNoHeading bytes
IsFaultAt bytes (location.Row k why) = (row : Row) × IsRowAt bytes k row × IsRowFault k row why

-- The bytes are refused there, for what is wrong there.
abbrev pub IsRefusedAt : Text → StimuliLocation → Type 0
IsRefusedAt bytes p = (stimuli_in bytes ≡ Err p) × IsFaultAt bytes p

-- The bytes are stimuli.
abbrev pub AreTaken : Text → Type 0
AreTaken bytes = (stimuli : List Stimulus) × (stimuli_in bytes ≡ Ok stimuli)

-- A reader of the records of a text.
use Rattle.std.specs.Prelude.{◌≡◌, ◌<◌, ◌+◌, ◌++◌, ℕ, Bool, true, false, List, [], ◌∷◌, length, Option, Some, None, IfSome, Result, Ok, Err, slice_get}
use Rattle.std.specs.Borrow.{Bor}
use Rattle.csv.specs.Machine.{ends_at_end}
use Rattle.csv.specs.Records.{fields_of}
use Rattle.csv.specs.Reading.{Ready, default_config, records, records_from, source_of, strip_bom}
use Rattle.csv.specs.declared.error.Error.{Error}
use Rattle.csv.specs.declared.iter.ByteRecordsIntoIter.{ByteRecordsIntoIter}
use Rattle.csv.specs.declared.parser.State.{State}
use Rattle.csv.specs.declared.parser.State.TheVariants as st
use Rattle.csv.specs.declared.reader.Trim.TheVariants as trim
use Rattle.csv.specs.declared.record.ByteRecord.{ByteRecord}
use Rattle.fb_types.specs.declared.deploy.Stimulus.{Stimulus}
use Rattle.fb_inputs.specs.declared.location.StimuliFault.{StimuliFault}
use Rattle.fb_inputs.specs.declared.location.StimuliFault.TheVariants.{Memory, At}
use Rattle.fb_inputs.specs.declared.location.StimuliLocation.TheVariants.{Heading}
use Rattle.fb_inputs.specs.StimuliLocations.{location_of}
use Rattle.fb_inputs.specs.Rows.{Row}
use Rattle.fb_inputs.specs.declared.row_positions.RecordReader.{RecordReader}
use Rattle.fb_inputs.specs.Stimuli.{is_head, stimulus_at}
use Rattle.fb_inputs.specs.Words.{Text}

abbrev pub known : Bor (List ℕ) → Option (List ℕ)
known s = Some s.now

-- the reader is between records, with this text left
pub record IsAt (it : ByteRecordsIntoIter (Bor (List ℕ))) (z : Text) : Type 0 where
  pub trim : it.rdr.trim ≡ trim.None
  pub ready : Ready it.rdr
  pub left : 0 < it.left
  pub config : it.rdr.config ≡ default_config
  pub source : source_of known it.rdr ≡ Some z
  pub between : ends_at_end it.rdr.state ≡ false
  pub flexible : it.rdr.flexible ≡ true

-- the reader has read nothing of this text
abbrev pub IsOpened : ByteRecordsIntoIter (Bor (List ℕ)) → Text → Type 0
IsOpened it z = IsAt it z × (it.rdr.state ≡ st.StartRecord)

-- the records from an offset on
abbrev pub rows_from : State → Text → List Row
rows_from s z = records_from default_config (length z + 1) s z

-- the last record that was read, if any was, after this many
abbrev pub IsLast : Text → ℕ → Option ByteRecord → Type 0
IsLast text count None = count ≡ 0
IsLast text count (Some row) = (before : ℕ) × (count ≡ before + 1) × (slice_get (records default_config (strip_bom text)) before ≡ Some (fields_of row))

-- The reader has read some records of the text, and has the others left.
pub record IsReaderOf (text : Text) (reader : RecordReader) : Type 0 where
  pub left : Text
  pub here : IsAt reader.rows left
  pub others : (k : ℕ) → slice_get (rows_from reader.rows.rdr.state left) k ≡ slice_get (records default_config (strip_bom text)) (reader.read + k)
  pub last : IsLast text reader.read reader.last

-- the reader is after a heading
pub record IsHeaded (bytes : Text) (it : ByteRecordsIntoIter (Bor (List ℕ))) : Type 0 where
  pub left : Text
  pub here : IsAt it left
  pub head : Row
  pub headed : is_head head ≡ true
  pub read : records default_config (strip_bom bytes) ≡ head ∷ rows_from it.rdr.state left

-- the first record is no heading
pub record HasOtherHead (bytes : Text) : Type 0 where
  pub first : Row
  pub rows : List Row
  pub read : records default_config (strip_bom bytes) ≡ first ∷ rows
  pub other : is_head first ≡ false

-- where a reader is that has read a heading, if there is any record, or why there is none
abbrev pub Opens : Text → ByteRecordsIntoIter (Bor (List ℕ)) → Result Bool StimuliFault → Type 0
Opens bytes it (Ok false) = records default_config (strip_bom bytes) ≡ []
Opens bytes it (Ok true) = IsHeaded bytes it
Opens bytes it (Err e) = IfSome (location_of e) (λ p. (p ≡ Heading) × HasOtherHead bytes)

-- what a test of the first record says: that it is the heading, or where that should be
abbrev pub heading_of : Bool → Result Bool StimuliFault
heading_of true = Ok true
heading_of false = Err (At Heading)

-- the first record was tested: the only other error is out of memory
abbrev pub IsRead : Result ByteRecord Error → Result Bool StimuliFault → Type 0
IsRead (Ok row) answer = answer ≡ heading_of (is_head (fields_of row))
IsRead (Err e) answer = answer ≡ Err Memory

-- the stimulus of what was read follows the others, unless it is refused or memory runs out
abbrev pub IsAdded : Result ByteRecord Error → List Stimulus → List Stimulus → Result (Unit {0}) StimuliFault → Type 0
IsAdded (Ok row) old new (Ok u) = (s : Stimulus) × (stimulus_at (length old) (fields_of row) ≡ Ok s) × (new ≡ old ++ s ∷ [])
IsAdded (Ok row) old new (Err e) = IfSome (location_of e) (λ p. stimulus_at (length old) (fields_of row) ≡ Err p)
IsAdded (Err e) old new added = added ≡ Err Memory

-- Stimuli, from the records that the CSV reader returns for their bytes (this project's profile).
use Rattle.std.specs.Prelude.{ℕ, ◌+◌, ◌^◌, Bool, ◌&&◌, if◌then◌else◌, nat_le, nat_lt, false, List, [], ◌∷◌, length, Option, Some, None, Ok, Err, codes}
use Rattle.std.specs.Option.{option_map_or}
use Rattle.std.specs.Str.{bytes_eq}
use Rattle.csv.specs.Reading.{records, default_config, strip_bom}
use Rattle.csv.specs.declared.error.ErrorKind.{ErrorKind}
use Rattle.csv.specs.declared.error.ErrorKind.TheVariants as kind
use Rattle.fb_types.specs.declared.deploy.Stimulus.{Stimulus}
use Rattle.fb_inputs.specs.declared.location.RowFault.TheVariants as fault
use Rattle.fb_inputs.specs.declared.location.StimuliLocation.TheVariants as location
use Rattle.fb_inputs.specs.Refusals.{Outcome, ◌>>=◌, or_refuse}
use Rattle.fb_inputs.specs.StimuliLocations.{InRow, Located, at_row, numbered, value_at}
use Rattle.fb_inputs.specs.Lists.{each_at}
use Rattle.fb_inputs.specs.Words.{Text}
use Rattle.fb_inputs.specs.Numbers.{natural}
use Rattle.fb_inputs.specs.Rows.{Row, draft, setting}

-- Memory ran out for the reader of records of bytes, or it failed itself.
abbrev pub IsOfReading : ErrorKind → Type 0
IsOfReading (kind.Io e) = Unit {0}
IsOfReading kind.OutOfMemory = Unit {0}
IsOfReading (kind.Utf8 pos err) = ⊥
IsOfReading (kind.UnequalLengths pos expected len) = ⊥
IsOfReading (kind.Serialize why) = ⊥
IsOfReading (kind.Deserialize pos err) = ⊥

abbrev pub most_bytes : ℕ
most_bytes = 16777216

abbrev pub most_rows : ℕ
most_rows = 100000

-- the fields of a row of three
unfoldable pub three : Row → Option (Text × Text × Text)
three (a ∷ b ∷ c ∷ []) = Some (a, b, c)
three _ = None

-- The stimulus, unless its tick is too late or the row comes after too many.
abbrev pub limited : ℕ → Stimulus → InRow Stimulus
limited before s =
    if nat_le s.tick (10 ^ 12) then (if nat_lt before most_rows then Ok s else Err fault.Crowded) else Err fault.Late

-- The stimulus of a row, after this number of rows.
unfoldable pub stimulus : ℕ → Row → InRow Stimulus
stimulus before row = do
  fields ← or_refuse fault.Fields (three row)
  drawn ← draft fields.1 fields.2
  tick ← or_refuse fault.Tick (natural fields.0)
  settings ← each_at value_at setting 0 drawn.words
  limited before (record { tick = tick; instance = drawn.instance; event = drawn.event; settings = settings })

-- the same, with the index of the row
unfoldable pub stimulus_at : ℕ → Row → Located Stimulus
stimulus_at before row = at_row before (stimulus before row)

-- the stimuli of the rows from here on, up to the first that is faulty
unfoldable pub stimuli_from : ℕ → List Row → Located (List Stimulus)
stimuli_from before [] = Ok []
stimuli_from before (row ∷ rows) = do
  s ← stimulus_at before row
  more ← stimuli_from (before + 1) rows
  Ok (s ∷ more)

-- the record `tick,event,values`
abbrev pub is_head : Row → Bool
is_head row = option_map_or (λ f. bytes_eq f.0 (codes "tick") && bytes_eq f.1 (codes "event") && bytes_eq f.2 (codes "values")) (three row) false

-- the stimuli of all records: the head comes first, unless there is none at all
unfoldable pub stimuli : List Row → Located (List Stimulus)
stimuli [] = Ok []
stimuli (head ∷ rows) = if is_head head then stimuli_from 0 rows else Err location.Heading

-- The stimuli that bytes give, or where they are refused. The CSV reader skips one leading byte order mark.
unfoldable pub stimuli_in : Text → Located (List Stimulus)
stimuli_in bytes =
    if nat_le (length bytes) most_bytes then stimuli (records default_config (strip_bom bytes)) else Err location.Bytes

-- The stimuli that bytes give, or the number of the refusal.
unfoldable pub stimuli_of : Text → Outcome (List Stimulus)
stimuli_of bytes = numbered (stimuli_in bytes)

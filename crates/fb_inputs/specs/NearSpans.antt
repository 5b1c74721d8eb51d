-- Where positions are in a text (this project's own).
use Rattle.std.specs.Prelude.{◌≡◌, ◌≤◌, ℕ, ◌+◌, ◌-◌, List, [], ◌∷◌, length, take, drop, Option, Some, None}
use Rattle.std.specs.Borrow.{Bor}
use Rattle.csv.specs.Records.{fields_of}
use Rattle.csv.specs.declared.iter.ByteRecordsIntoIter.{ByteRecordsIntoIter}
use Rattle.csv.specs.declared.record.ByteRecord.{ByteRecord}
use Rattle.fb_read.specs.declared.token.Span.{Span}
use Rattle.fb_inputs.specs.Readers.{IsAt, IsReaderOf, rows_from}
use Rattle.fb_inputs.specs.Counts.{Text, IsNth, mark_len}
use Rattle.fb_inputs.specs.Positions.{around_stimuli}
use Rattle.fb_inputs.specs.Searches.{IsNearest}
use Rattle.fb_inputs.specs.Records.{BeginsField, HasLength, HasWordLength, IsReadAt, IsScan, begins_record, begins_word, said, skipped}
use Rattle.fb_inputs.specs.declared.near_stimuli.Search.{Search}
use Rattle.fb_inputs.specs.declared.position.StimuliPosition.{StimuliPosition}
use Rattle.fb_inputs.specs.declared.position.StimuliPosition.TheVariants as in_stimuli

-- the bytes of a text between two offsets
abbrev pub bytes_of : Text → Span → Text
bytes_of text span = take (span.end - span.start) (drop span.start text)

-- the beginning of the text, after its byte order mark
abbrev pub IsStart : Text → Span → Type 0
IsStart text span = (span.start ≡ mark_len text) × (span.end ≡ mark_len text)

-- the reader of records gives this record next, or has none left
abbrev pub IsNextRow : (old new : ByteRecordsIntoIter (Bor (List ℕ))) → Text → Option ByteRecord → Type 0
IsNextRow old new left None = rows_from old.rdr.state left ≡ []
IsNextRow old new left (Some row) =
    (rest : Text) × IsAt new rest × (rows_from old.rdr.state left ≡ fields_of row ∷ rows_from new.rdr.state rest)

-- The text was searched so far.
abbrev pub IsSearch : Text → Search → Type 0
IsSearch text search = IsScan text search.scan × IsReaderOf text search.reader

-- The bytes are those of a field, by the indexes of the record, the heading among them, and of the field in it.
pub record IsFieldAt (text : Text) (record_index field : ℕ) (span : Span) : Type 0 where
  pub begin : ℕ
  pub record_begins : IsNth text (begins_record text) record_index begin
  pub inner : ℕ
  pub field_begins : BeginsField (drop begin text) field inner
  pub start : span.start ≡ begin + inner
  pub len : ℕ
  pub has_length : HasLength (drop span.start text) len
  pub end : span.end ≡ span.start + len
  pub within : span.end ≤ length text

-- The same, and the reader of CSV reads there what they say.
pub record IsField (text : Text) (record_index field : ℕ) (span : Span) : Type 0 where
  pub at : IsFieldAt text record_index field span
  pub read : IsReadAt text record_index field (said (bytes_of text span))

-- The bytes are those of a word in the field at these bytes.
pub record IsWordIn (text : Text) (field : Span) (word : ℕ) (span : Span) : Type 0 where
  pub begin : ℕ
  pub begins : IsNth (said (bytes_of text field)) (begins_word (said (bytes_of text field))) word begin
  pub start : span.start ≡ field.start + skipped (bytes_of text field) + begin
  pub len : ℕ
  pub has_length : HasWordLength (drop begin (said (bytes_of text field))) len
  pub end : span.end ≡ span.start + len

-- The bytes are those of a word of the last field of three.
abbrev pub IsWordAt : Text → (record_index word : ℕ) → Span → Type 0
IsWordAt text record_index word span = (field : Span) × IsField text record_index 2 field × IsWordIn text field word span

-- The bytes are at the position.
abbrev pub IsInStimuli : Text → StimuliPosition → Span → Type 0
IsInStimuli text in_stimuli.Start span = IsStart text span
IsInStimuli text in_stimuli.Heading span = IsField text 0 0 span
IsInStimuli text (in_stimuli.Row k) span = IsField text (k + 1) 0 span
IsInStimuli text (in_stimuli.Field k f) span = IsField text (k + 1) f span
IsInStimuli text (in_stimuli.Word k w) span = IsWordAt text (k + 1) w span

-- The bytes are at the position, or at the first one around it at which there are any. The beginning of the text is
-- around all, and is the last one.
abbrev pub IsNearInStimuli : Text → StimuliPosition → Span → Type 0
IsNearInStimuli text position span = IsNearest (IsInStimuli text) around_stimuli position span

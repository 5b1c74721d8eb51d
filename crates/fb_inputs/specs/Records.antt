-- Records, fields and words of stimuli in CSV, by their bytes (this project's own).
use Rattle.std.specs.Prelude.{◌≡◌, ◌⊎◌, ◌<◌, ◌≤◌, ℕ, ◌+◌, ◌-◌, ◌%◌, Bool, true, false, not, ◌&&◌, ◌||◌, ◌==◌, nat_lt, if◌then◌else◌, length, take, drop, Some, slice_get}
use Rattle.csv.specs.Reading.{records, default_config, strip_bom}
use Rattle.csv.specs.Records.{field_at}
use Rattle.fb_inputs.specs.Rows.{Row}
use Rattle.fb_inputs.specs.declared.csv_records.RecordScan.{RecordScan}
use Rattle.fb_inputs.specs.Counts.{Text, IsNth, at, count_below, mark_len}

-- ---- Records

abbrev pub is_quote : Text → ℕ → Bool
is_quote text i = at text i == 34

-- an even number of quotes is before the offset
abbrev pub is_outside : Text → ℕ → Bool
is_outside text i = (count_below (is_quote text) i) % 2 == 0

abbrev pub is_line_end : ℕ → Bool
is_line_end b = b == 10 || b == 13

-- the offset is the first one of the text, after its byte order mark, or follows a line end
abbrev pub begins_line : Text → ℕ → Bool
begins_line text i = i == mark_len text || (nat_lt 0 i && is_line_end (at text (i - 1)))

-- A record begins at the offset: a line that is not empty does, outside quotes.
abbrev pub begins_record : Text → ℕ → Bool
begins_record text i = is_outside text i && (begins_line text i && not (is_line_end (at text i)))

-- The text was scanned for records up to an offset. The scan counts the quotes and the beginnings of records before it.
pub record IsScan (text : Text) (scan : RecordScan) : Type 0 where
  pub within : scan.at ≤ length text
  pub quotes : scan.quotes ≡ count_below (is_quote text) scan.at
  pub records : scan.records ≡ count_below (begins_record text) scan.at
  pub few_quotes : scan.quotes ≤ scan.at
  pub few_records : scan.records ≤ scan.at

-- ---- Fields, in what follows the beginning of a record

abbrev pub is_comma : Text → ℕ → Bool
is_comma z i = is_outside z i && at z i == 44

abbrev pub ends_record : Text → ℕ → Bool
ends_record z i = is_outside z i && is_line_end (at z i)

-- the record does not end before the offset
abbrev pub IsInRecord : Text → ℕ → Type 0
IsInRecord z i = (k : ℕ) → k < i → ends_record z k ≡ false

-- The field of the record with this index begins at the offset: the first one with the record, each other one after a comma.
abbrev pub BeginsField : Text → (index offset : ℕ) → Type 0
BeginsField z index offset =
    ((index ≡ 0) × (offset ≡ 0))
    ⊎ ((before : ℕ) × (comma : ℕ) × (index ≡ before + 1) × (offset ≡ comma + 1) × IsNth z (is_comma z) before comma × IsInRecord z comma)

-- a field ends before this byte of what follows its beginning
abbrev pub ends_field : Text → ℕ → Bool
ends_field z i = is_comma z i || ends_record z i

-- The field has this length.
pub record HasLength (z : Text) (len : ℕ) : Type 0 where
  pub within : len ≤ length z
  pub inside : (k : ℕ) → k < len → ends_field z k ≡ false
  pub end : (len ≡ length z) ⊎ (ends_field z len ≡ true)

-- the field is in quotes
abbrev pub is_quoted : Text → Bool
is_quoted raw = nat_lt 1 (length raw) && (at raw 0 == 34 && at raw (length raw - 1) == 34)

-- how many bytes are before what a field says, and how many of them it is
abbrev pub skipped : Text → ℕ
skipped raw = if is_quoted raw then 1 else 0

abbrev pub said_len : Text → ℕ
said_len raw = if is_quoted raw then length raw - 2 else length raw

-- what the field says
abbrev pub said : Text → Text
said raw = take (said_len raw) (drop (skipped raw) raw)

-- ---- Words, in what a field says

-- a word begins at the offset
abbrev pub begins_word : Text → ℕ → Bool
begins_word z i = not (at z i == 32) && (i == 0 || at z (i - 1) == 32)

-- The word has this length.
pub record HasWordLength (z : Text) (len : ℕ) : Type 0 where
  pub within : len ≤ length z
  pub inside : (k : ℕ) → k < len → (at z k == 32) ≡ false
  pub end : (len ≡ length z) ⊎ ((at z len == 32) ≡ true)

-- ---- What the reader of CSV says

-- The reader reads this field in this record, both counted from 0.
pub record IsReadAt (text : Text) (index field : ℕ) (value : Text) : Type 0 where
  pub row : Row
  pub row_is : slice_get (records default_config (strip_bom text)) index ≡ Some row
  pub value_is : field_at row field ≡ Some value

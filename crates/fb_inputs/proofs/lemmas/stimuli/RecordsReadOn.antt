-- A reader of records that reads on.
use Rattle.std.proofs.Common.{◌≡◌, ℕ, zero, suc, ◌+◌, ◌-◌, ◌<◌, ◌≤◌, Bool, true, false, [], ◌∷◌, List, length, Option, Some, None, Bor, refl, sym, subst, ap, ◌∙◌, arith, zero-add}
use Rattle.std.proofs.lemmas.Option.{same_Some, slice_get_within}
use Rattle.std.specs.Bool.{MatchBool}
use Rattle.std.specs.Prelude.{IfOk, IsSomeAnd, Result, Ok, Err, option_map, slice_get}
use Rattle.csv.specs.Reading.{default_config, records, strip_bom}
use Rattle.csv.specs.Records.{field_at, fields_of}
use Rattle.csv.specs.declared.iter.ByteRecordsIntoIter.{ByteRecordsIntoIter}
use Rattle.csv.specs.declared.record.ByteRecord.{ByteRecord}
use Rattle.fb_inputs.specs.Counts.{Text}
use Rattle.fb_inputs.specs.NearSpans.{IsNextRow}
use Rattle.fb_inputs.specs.Readers.{IsAt, IsLast, IsReaderOf, rows_from}
use Rattle.fb_inputs.specs.Records.{IsReadAt}
use Rattle.fb_inputs.specs.Rows.{Row}
use Rattle.fb_inputs.specs.declared.row_positions.RecordReader.{RecordReader}
use Rattle.fb_inputs.proofs.lemmas.stimuli.NextRecords.{one_left}

-- the reader after a record more
pub one_read :
    (text : Text) (old new : RecordReader) (row : ByteRecord) (of : IsReaderOf text old) → IsNextRow old.rows new.rows of.left (Some row) → new.read ≡ old.read + 1 → new.last ≡ Some row → IsReaderOf text new
one_read text old new row of (rest, there, is) count last =
    let all = records default_config (strip_bom text) in
    let later : (k : ℕ) → slice_get (rows_from new.rows.rdr.state rest) k ≡ slice_get all (new.read + k) = λ k.
    let turns : old.read + suc k ≡ new.read + k = omega (arith, count) in
    sym (ap (λ (rows : List Row). slice_get rows (suc k)) is) ∙ of.others (suc k) ∙ ap (λ (n : ℕ). slice_get all n) turns in
    let first : slice_get all old.read ≡ Some (fields_of row) =
    let turns : old.read + 0 ≡ old.read = omega arith in
    ap (λ (n : ℕ). slice_get all n) (sym turns) ∙ sym (of.others 0) ∙ ap (λ (rows : List Row). slice_get rows 0) is in
    record { left = rest; here = there; others = later; last = rw last (old.read, count, first) }

-- the value of the field is read, if that many records were and the last one has it
last_read :
    (text : Text) (index count read field : ℕ) (value : Text) (o : Option ByteRecord) → IsLast text read o → count ≡ index + 1 → read ≡ count
    → IsSomeAnd o (λ r. field_at (fields_of r) field ≡ Some value) → IsReadAt text index field value
last_read text index count read field value None last next is there = absurd there
last_read text index count read field value (Some row) (before, one, at) next is there =
    let same : before ≡ index = omega (arith, one, next, is) in
    record { row = fields_of row; row_is = ap (λ (n : ℕ). slice_get (records default_config (strip_bom text)) n) (sym same) ∙ at; value_is = there }

-- the last one has it, if the value is read
read_last :
    (text : Text) (index count read field : ℕ) (value : Text) (o : Option ByteRecord) → IsLast text read o → count ≡ index + 1 → read ≡ count
    → IsReadAt text index field value → IsSomeAnd o (λ r. field_at (fields_of r) field ≡ Some value)
read_last text index count read field value None last next is there = absurd (omega (arith, last, next, is))
read_last text index count read field value (Some row) (before, one, at) next is there =
    let same : before ≡ index = omega (arith, one, next, is) in
    let rows : Some there.row ≡ Some (fields_of row) = sym there.row_is ∙ ap (λ (n : ℕ). slice_get (records default_config (strip_bom text)) n) (sym same) ∙ at in
    subst (λ (r : Row). field_at r field ≡ Some value) (same_Some there.row (fields_of row) rows) there.value_is

decided : (b : Bool) (P Q : Type 0) → (P → Q) → (Q → P) → MatchBool b P (P → ⊥) → MatchBool b Q (Q → ⊥)
decided true P Q to from h = to h
decided false P Q to from h = λ q. h (from q)

-- whether the value is read, by the last of that many records
pub field_read :
    (text : Text) (reader : RecordReader) (index count field : ℕ) (value : Text) (b : Bool) → IsReaderOf text reader → count ≡ index + 1 → reader.read ≡ count
    → MatchBool b (IsSomeAnd reader.last (λ r. field_at (fields_of r) field ≡ Some value)) (IsSomeAnd reader.last (λ r. field_at (fields_of r) field ≡ Some value) → ⊥)
    → MatchBool b (IsReadAt text index field value) (IsReadAt text index field value → ⊥)
field_read text reader index count field value b of next is found =
    decided b _ _ (last_read text index count reader.read field value reader.last of.last next is) (read_last text index count reader.read field value reader.last of.last next is) found

-- nothing is read in a record that the text does not have
pub none_read : (text : Text) (index count field : ℕ) (value : Text) → count ≡ index + 1 → length (records default_config (strip_bom text)) < count → IsReadAt text index field value → ⊥
none_read text index count field value next few there =
    let within : index < length (records default_config (strip_bom text)) = slice_get_within (records default_config (strip_bom text)) index there.row there.row_is in
    omega (arith, within, next, few)

-- there are no more records if none is left
past_last : (rows : List Row) (k : ℕ) → slice_get rows k ≡ None → length rows ≤ k
past_last [] k none = omega arith
past_last (row ∷ rows) zero none = absurd cc
past_last (row ∷ rows) (suc k) none = omega (arith, past_last rows k none)

pub none_after : (text : Text) (reader : RecordReader) (of : IsReaderOf text reader) → rows_from reader.rows.rdr.state of.left ≡ [] → length (records default_config (strip_bom text)) ≤ reader.read
none_after text reader of none =
    let all = records default_config (strip_bom text) in
    let turns : reader.read ≡ reader.read + 0 = omega arith in
    past_last all reader.read (ap (λ (n : ℕ). slice_get all n) turns ∙ sym (of.others 0) ∙ ap (λ (rows : List Row). slice_get rows 0) none)

-- ---- A record by its index

abbrev Rest : Type 0
Rest = ByteRecordsIntoIter (Bor (List ℕ))

-- this many records were read of those that were left
abbrev pub ArePassed : Rest → Rest → ℕ → Type 0
ArePassed old new count =
    (z : Text) × IsAt new z × ((y : Text) → IsAt old y → (k : ℕ) → slice_get (rows_from old.rdr.state y) (count + k) ≡ slice_get (rows_from new.rdr.state z) k)

pub none_passed : (a : Rest) → (z : Text) × IsAt a z → ArePassed a a 0
none_passed a (z, here) = (
  z,
  here,
  λ y there k.
      ap (λ (t : Text). slice_get (rows_from a.rdr.state t) (0 + k)) (one_left a y z there here) ∙ ap (λ (n : ℕ). slice_get (rows_from a.rdr.state z) n) (zero-add k),
)

pub one_passed :
    (old new later : Rest) (count : ℕ) (row : ByteRecord) (passed : ArePassed old new count) → IsNextRow new later passed.0 (Some row) → ArePassed old later (count + 1)
one_passed old new later count row (z, here, same) (rest, there, is) = (
  rest,
  there,
  λ y at k.
      let turns : (count + 1) + k ≡ count + suc k = omega arith in
      ap (λ (n : ℕ). slice_get (rows_from old.rdr.state y) n) turns ∙ same y at (suc k) ∙ ap (λ (rows : List Row). slice_get rows (suc k)) is,
)

nothing : (rows : List Row) (k : ℕ) → rows ≡ [] → slice_get rows k ≡ None
nothing [] zero none = refl
nothing [] (suc k) none = refl
nothing (row ∷ rows) k none = absurd (cc)

pub none_there :
    (old new later : Rest) (count index : ℕ) (passed : ArePassed old new count) → IsNextRow new later passed.0 None → count ≤ index → (y : Text) → IsAt old y
    → None ≡ slice_get (rows_from old.rdr.state y) index
none_there old new later count index (z, here, same) none le y at =
    let turns : index ≡ count + (index - count) = omega (arith, le) in
    sym
    (ap (λ (n : ℕ). slice_get (rows_from old.rdr.state y) n) turns ∙ same y at (index - count) ∙ nothing (rows_from new.rdr.state z) (index - count) none)

pub row_there :
    (old new later : Rest) (count index : ℕ) (o : Option ByteRecord) (passed : ArePassed old new count) → IsNextRow new later passed.0 o → count ≡ index → (y : Text) → IsAt old y
    → option_map fields_of o ≡ slice_get (rows_from old.rdr.state y) index
row_there old new later count index None passed next is y at = none_there old new later count index passed next (omega (arith, is)) y at
row_there old new later count index (Some row) (z, here, same) (rest, there, rows_are) is y at =
    let turns : index ≡ count + 0 = omega (arith, is) in
    sym (ap (λ (n : ℕ). slice_get (rows_from old.rdr.state y) n) turns ∙ same y at 0 ∙ ap (λ (rows : List Row). slice_get rows 0) rows_are)

pub last_row :
    {E : Type 0} (old new later : Rest) (count index : ℕ) (made : Result (Option ByteRecord) E) (passed : ArePassed old new count) → IfOk made (IsNextRow new later passed.0) → count ≡ index
    → (y : Text) → IsAt old y → IfOk made (λ o. option_map fields_of o ≡ slice_get (rows_from old.rdr.state y) index)
last_row old new later count index (Err e) passed next is y at = tt
last_row old new later count index (Ok o) passed next is y at = row_there old new later count index o passed next is y at

-- The records that a reader has left.
use Rattle.fb_inputs.proofs.lemmas.Common.{◌≡◌, ◌==◌, ℕ, zero, suc, ◌+◌, ◌<◌, ◌≤◌, Bool, true, false, cond, List, [], ◌∷◌, ◌++◌, length, Option, Some, None, Bor, refl, sym, ap, ◌∙◌, arith, inl, inr, Result, Ok, Err, IfSome, IsAt, rows_from, Text, Row}
use Rattle.fb_types.proofs.Common.{IfErr, false≢true}
use Rattle.csv.specs.Machine.{Read, ends_at_end, next_record, step, is_end, fields_after, field_after, in_field, start_field, start_record, after_end, ends_with}
use Rattle.csv.specs.Reading.{ExplainsRead, Reached, ReadRecord, RowStep, default_config, error_kind, records_from, records_next, source_of}
use Rattle.csv.specs.declared.error.Error.{Error}
use Rattle.csv.specs.declared.error.ErrorKind.{ErrorKind}
use Rattle.csv.specs.declared.error.ErrorKind.TheVariants as kind
use Rattle.csv.specs.declared.iter.ByteRecordsIntoIter.{ByteRecordsIntoIter}
use Rattle.csv.specs.declared.parser.Action.{Action}
use Rattle.csv.specs.declared.parser.Action.TheVariants as act
use Rattle.csv.specs.declared.parser.State.{State}
use Rattle.csv.specs.declared.parser.State.TheVariants as st
use Rattle.csv.specs.declared.parser.Terminator.TheVariants as term
use Rattle.csv.specs.declared.reader.Reader.{Reader}
use Rattle.csv.specs.declared.reader.Trim.TheVariants as trim
use Rattle.csv.specs.declared.record.ByteRecord.{ByteRecord}
use Rattle.csv.proofs.ReadFacts.{rows-end, rows-more}
use Rattle.fb_inputs.specs.Readers.{IsOpened, known}
use Rattle.fb_inputs.specs.Stimuli.{IsOfReading}

-- ---- A record takes at least one byte, and the reader is between records after it.

-- if a step ends a record, the state is one between records
abbrev Parts : State × Action → Type 0
Parts x = is_end x.1 ≡ true → ends_at_end x.0 ≡ false

parts-cond : (t : Bool) (x y : State × Action) → Parts x → Parts y → Parts (cond t x y)
parts-cond true x y a b = a
parts-cond false x y a b = b

after_end-between : (t : Bool) → ends_at_end (cond t st.AfterCr st.StartRecord) ≡ false
after_end-between true = refl
after_end-between false = refl

in_field-parts : (c : ℕ) → Parts (in_field default_config c)
in_field-parts c =
    parts-cond (c == 44) (st.StartField, act.EndField) _ (λ h. absurd (false≢true h))
    (parts-cond (ends_with term.CRLF c) (after_end term.CRLF c, act.EndRecord) (st.InField, act.Copy) (λ h. after_end-between (c == 13)) (λ h. absurd (false≢true h)))

start_field-parts : (c : ℕ) → Parts (start_field default_config c)
start_field-parts c = parts-cond (c == 34) (st.InQuoted, act.Skip) (in_field default_config c) (λ h. absurd (false≢true h)) (in_field-parts c)

start_record-parts : (c : ℕ) → Parts (start_record default_config c)
start_record-parts c = parts-cond (ends_with term.CRLF c) (st.StartRecord, act.Skip) (start_field default_config c) (λ h. absurd (false≢true h)) (start_field-parts c)

step-parts : (s : State) (c : ℕ) → Parts (step default_config s c)
step-parts st.StartRecord c = start_record-parts c
step-parts st.StartField c = start_field-parts c
step-parts st.InField c = in_field-parts c
step-parts st.InQuoted c = parts-cond (c == 34) (st.AfterQuote, act.Skip) (st.InQuoted, act.Copy) (λ h. absurd (false≢true h)) (λ h. absurd (false≢true h))
step-parts st.InEscape c = λ h. absurd (false≢true h)
step-parts st.AfterQuote c = parts-cond (c == 34) (st.InQuoted, act.Copy) (in_field default_config c) (λ h. absurd (false≢true h)) (in_field-parts c)
step-parts st.InComment c = parts-cond (c == 10) (st.StartRecord, act.Skip) (st.InComment, act.Skip) (λ h. absurd (false≢true h)) (λ h. absurd (false≢true h))
step-parts st.AfterCr c = parts-cond (c == 10) (st.StartRecord, act.Skip) (start_record default_config c) (λ h. absurd (false≢true h)) (start_record-parts c)

-- what a read leaves
abbrev Leaves : State → Text → Read → Type 0
Leaves s z r = (length r.2 ≤ length z) × (ends_at_end s ≡ false → length r.2 < length z) × (ends_at_end r.1 ≡ false)

leaves-longer : (s t : State) (c : ℕ) (z : Text) (o : Option Read) → IfSome o (Leaves t z) → IfSome o (Leaves s (c ∷ z))
leaves-longer s t c z None h = h
leaves-longer s t c z (Some r) h = (omega (arith, h.0), λ _. omega (arith, h.0), h.2)

leaves : (s : State) (fields : List Text) (field z : Text) → IfSome (next_record default_config s fields field z) (Leaves s z)
unfolding next_record
leaves s fields field [] = by (ends_at_end s) refl
  where
    by : (t : Bool) → ends_at_end s ≡ t → IfSome (cond t (Some (fields ++ (field ∷ []), st.StartRecord, [])) None) (Leaves s [])
    by true e = (omega arith, λ n. absurd (false≢true (sym n ∙ e)), refl)
    by false e = tt
leaves s fields field (c ∷ z) = by (is_end (step default_config s c).1) refl (leaves (step default_config s c).0 (fields_after (step default_config s c).1 fields field) (field_after (step default_config s c).1 c field) z)
  where
    more : Option Read
    more = next_record default_config (step default_config s c).0 (fields_after (step default_config s c).1 fields field) (field_after (step default_config s c).1 c field) z

    by : (t : Bool) → is_end (step default_config s c).1 ≡ t → IfSome more (Leaves (step default_config s c).0 z)
        → IfSome (cond t (Some (fields_after (step default_config s c).1 fields field, (step default_config s c).0, z)) more) (Leaves s (c ∷ z))
    by true e h = (omega arith, λ _. omega arith, step-parts s c e)
    by false e h = leaves-longer s (step default_config s c).0 c z more h

-- ---- The records from an index on

enough : (k m : ℕ) (s : State) (z : Text) → ends_at_end s ≡ false → length z < k → length z < m → records_from default_config k s z ≡ records_from default_config m s z
unfolding records_from
enough zero m s z between k_more m_more = absurd (omega arith)
enough (suc k) zero s z between k_more m_more = absurd (omega arith)
enough (suc k) (suc m) s z between k_more m_more =
    by (next_record default_config s [] [] z) (leaves s [] [] z) (λ (r : Read) (l : Leaves s z r). enough k m r.1 r.2 l.2 (omega (arith, l.1 between)) (omega (arith, l.1 between)))
  where
    by : (o : Option Read) → IfSome o (Leaves s z) → ((r : Read) → Leaves s z r → records_from default_config k r.1 r.2 ≡ records_from default_config m r.1 r.2)
        → records_next (records_from default_config k) o ≡ records_next (records_from default_config m) o
    by None h same = refl
    by (Some r) h same = ap (λ (rows : List Row). r.0 ∷ rows) (same r h)

rows_from-none : (s : State) (z : Text) → next_record default_config s [] [] z ≡ None → rows_from s z ≡ []
unfolding records_from
rows_from-none s z h =
    let turns : length z + 1 ≡ suc (length z) = omega arith in
    ap (λ (k : ℕ). records_from default_config k s z) turns ∙ ap (records_next (records_from default_config (length z))) h

rows_from-more : (s : State) (z : Text) (r : Read) → ends_at_end s ≡ false → next_record default_config s [] [] z ≡ Some r → rows_from s z ≡ r.0 ∷ rows_from r.1 r.2
unfolding records_from
rows_from-more s z r between h =
    let turns : length z + 1 ≡ suc (length z) = omega arith in
    let l : Leaves s z r = rw h at (leaves s [] [] z) in
    let same : records_from default_config (length z) r.1 r.2 ≡ rows_from r.1 r.2 = enough (length z) (length r.2 + 1) r.1 r.2 l.2 (l.1 between) (omega arith) in
    ap (λ (k : ℕ). records_from default_config k s z) turns ∙ ap (records_next (records_from default_config (length z))) h ∙ ap (λ (rows : List Row). r.0 ∷ rows) same

-- ---- A reader of a text

-- rows of any lengths are read as bytes, so there is no other error
pub of_reading : (it : ByteRecordsIntoIter (Bor (List ℕ))) (z : Text) (b : Reader (Bor (List ℕ))) (k : ErrorKind) → IsAt it z → ExplainsRead known it.rdr b false k → IsOfReading k
of_reading it z b (kind.Io e) here why = tt
of_reading it z b kind.OutOfMemory here why = tt
of_reading it z b (kind.UnequalLengths pos expected len) here why = absurd (false≢true (sym why.0 ∙ here.flexible))
of_reading it z b (kind.Utf8 pos err) here why = absurd (false≢true why.0)
of_reading it z b (kind.Serialize text) here why = absurd why
of_reading it z b (kind.Deserialize pos err) here why = absurd why

pub at_more : (a b : ByteRecordsIntoIter (Bor (List ℕ))) (z : Text) (fields : Row) → IsAt a z → ReadRecord known a.rdr b.rdr true fields → b.rdr.first ≡ true → 0 < b.left → b.rdr.flexible ≡ a.rdr.flexible
    → (y : Text) × IsAt b y × (rows_from a.rdr.state z ≡ fields ∷ rows_from b.rdr.state y)
unfolding Reached
at_more a b z fields here r first left kept =
    let (y, source, reached) = rows-more known a.rdr b.rdr fields default_config a.rdr.state z z [] here.config here.source (refl, refl) r in
    let (p, reads, is, following) = reached in
    let l : Leaves a.rdr.state z p = rw reads at (leaves a.rdr.state [] [] z) in
    let next = rows_from-more a.rdr.state z p here.between reads in
    let there : IsAt b y = record {
      trim = r.3 ∙ here.trim;
      ready = inl first;
      left = left;
      config = r.2 ∙ here.config;
      source = source;
      between = ap ends_at_end (sym following.0) ∙ l.2;
      flexible = kept ∙ here.flexible;
    } in
    let rows = next ∙ ap (λ (row : Row). row ∷ rows_from p.1 p.2) (sym is) ∙ ap (λ (s : State). fields ∷ rows_from s p.2) following.0 ∙ ap (λ (t : Text). fields ∷ rows_from b.rdr.state t) following.1 in
    (y, there, rows)

pub at_end : (a b : ByteRecordsIntoIter (Bor (List ℕ))) (z : Text) → IsAt a z → ReadRecord known a.rdr b.rdr false [] → rows_from a.rdr.state z ≡ []
at_end a b z here r = rows_from-none a.rdr.state z (rows-end known a.rdr b.rdr [] default_config z here.config here.source r)

pub at_start : (it : ByteRecordsIntoIter (Bor (List ℕ))) (r : Reader (Bor (List ℕ))) (z : Text) → it.rdr ≡ r → 0 < it.left → r.trim ≡ trim.None → r.has_headers ≡ false → r.headers ≡ None
    → r.config ≡ default_config → source_of known r ≡ Some z → r.state ≡ st.StartRecord → r.flexible ≡ true → IsOpened it z
at_start it r z same left trims heads none config source start flexible = (
  record {
    trim = ap (λ (x : Reader (Bor (List ℕ))). x.trim) same ∙ trims;
    ready = inr (inr (ap (λ (x : Reader (Bor (List ℕ))). x.has_headers) same ∙ heads, ap (λ (x : Reader (Bor (List ℕ))). x.headers) same ∙ none));
    left = left;
    config = ap (λ (x : Reader (Bor (List ℕ))). x.config) same ∙ config;
    source = ap (source_of known) same ∙ source;
    between = ap (λ (x : Reader (Bor (List ℕ))). ends_at_end x.state) same ∙ ap ends_at_end start;
    flexible = ap (λ (x : Reader (Bor (List ℕ))). x.flexible) same ∙ flexible;
  },
  ap (λ (x : Reader (Bor (List ℕ))). x.state) same ∙ start,
)

-- the error that a step gives is of reading
pub failed_reading : (a : ByteRecordsIntoIter (Bor (List ℕ))) (z : Text) (b : Reader (Bor (List ℕ))) (left : ℕ) (r : Result ByteRecord Error)
    → IsAt a z → RowStep known a.rdr b left (Some r) → IfErr r (λ e. IsOfReading (error_kind e))
failed_reading a z b left (Ok row) here step = tt
failed_reading a z b left (Err e) here step = of_reading a z b e.kind here step

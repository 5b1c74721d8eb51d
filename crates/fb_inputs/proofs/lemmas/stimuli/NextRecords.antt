-- What a reader returns next, appended to what was found.
use Rattle.fb_inputs.proofs.lemmas.Common.{◌≡◌, ℕ, Bool, true, false, List, length, Some, Result, Ok, Err, Bor, refl, sym, ◌∙◌, IfSome, Text, stimuli_from, all_after, IsAt, rows_from}
use Rattle.fb_types.proofs.Common.{same_Some}
use Rattle.fb_types.specs.declared.deploy.Stimulus.{Stimulus}
use Rattle.csv.specs.Reading.{FlexibleStep, RowStep, strip_bom}
use Rattle.csv.specs.Records.{fields_of}
use Rattle.csv.specs.declared.error.Error.{Error}
use Rattle.csv.specs.declared.iter.ByteRecordsIntoIter.{ByteRecordsIntoIter}
use Rattle.csv.specs.declared.record.ByteRecord.{ByteRecord}
use Rattle.fb_inputs.specs.declared.location.StimuliFault.{StimuliFault}
use Rattle.fb_inputs.specs.declared.location.StimuliFault.TheVariants.{Memory}
use Rattle.fb_inputs.specs.StimuliLocations.{location_of}
use Rattle.fb_inputs.specs.Stimuli.{is_head}
use Rattle.fb_inputs.specs.Readers.{IsAdded, IsOpened, IsRead, Opens, heading_of, known}
use Rattle.fb_inputs.proofs.lemmas.stimuli.Records.{at_more}
use Rattle.fb_inputs.proofs.lemmas.stimuli.Rows.{next_found, next_refused, start_read}

abbrev Rest : Type 0
Rest = ByteRecordsIntoIter (Bor (List ℕ))

-- the text that is left is one
pub one_left : (a : Rest) (z y : Text) → IsAt a z → IsAt a y → z ≡ y
one_left a z y here there = same_Some z y (sym here.source ∙ there.source)

pub turn_more :
    (a b : Rest) (z : Text) (front following : List Stimulus) (r : Result ByteRecord Error) (u : Unit {0}) → IsAt a z → RowStep known a.rdr b.rdr b.left (Some r) → FlexibleStep a.rdr b.rdr (Some r)
    → IsAdded r front following (Ok u)
    → (y : Text) × IsAt b y × (all_after front (stimuli_from (length front) (rows_from a.rdr.state z)) ≡ all_after following (stimuli_from (length following) (rows_from b.rdr.state y)))
turn_more a b z front following (Ok row) u here step flexible added =
    let (y, there, rows) = at_more a b z (fields_of row) here step.0 step.1 step.2 flexible in
    let (s, found, is) = added in
    (y, there, rw is (next_found front (fields_of row) (rows_from b.rdr.state y) _ s _ rows found refl))
turn_more a b z front following (Err e) u here step flexible added = absurd cc

pub turn_refused :
    (a b : Rest) (z : Text) (front following : List Stimulus) (r : Result ByteRecord Error) (e : StimuliFault) → IsAt a z → RowStep known a.rdr b.rdr b.left (Some r) → FlexibleStep a.rdr b.rdr (Some r)
    → IsAdded r front following (Err e) → IfSome (location_of e) (λ n. all_after front (stimuli_from (length front) (rows_from a.rdr.state z)) ≡ Err n)
turn_refused a b z front following (Ok row) e here step flexible added =
    let (y, there, rows) = at_more a b z (fields_of row) here step.0 step.1 step.2 flexible in
    next_refused e front (fields_of row) (rows_from b.rdr.state y) _ _ rows added refl
turn_refused a b z front following (Err x) e here step flexible added = let memory : e ≡ Memory = cc in rw memory tt

-- ---- The heading

pub heading_found :
    (bytes : Text) (a b : Rest) (r : Result ByteRecord Error) (answer : Result Bool StimuliFault) → IsOpened a (strip_bom bytes) → RowStep known a.rdr b.rdr b.left (Some r)
    → FlexibleStep a.rdr b.rdr (Some r) → IsRead r answer → Opens bytes b answer
heading_found bytes a b (Ok row) answer opened step flexible is =
    let (here, start) = opened in
    let (y, there, rows) = at_more a b (strip_bom bytes) (fields_of row) here step.0 step.1 step.2 flexible in
    let read = start_read bytes a.rdr.state _ start rows in
    rw is
    ((elim (is_head (fields_of row)) as (λ t. is_head (fields_of row) ≡ t → Opens bytes b (heading_of t)) [
      | true ↦ λ e. record { left = y; here = there; head = fields_of row; headed = e; read = read }
      | false ↦ λ e. (refl, record { first = fields_of row; rows = rows_from b.rdr.state y; read = read; other = e })
    ]) refl)
heading_found bytes a b (Err e) answer opened step flexible is = rw is tt

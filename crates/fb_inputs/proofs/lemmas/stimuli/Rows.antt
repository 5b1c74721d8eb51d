-- The stimuli of rows, read one after another.
use Rattle.fb_inputs.proofs.lemmas.Common.{◌≡◌, ℕ, ◌+◌, ◌≤◌, true, false, List, [], ◌∷◌, ◌++◌, length, Option, Some, None, Ok, Err, refl, sym, ap, ◌∙◌, option_map, length_push, le-leb, IfSome, all_after, fault_of, RowFault, Row, Text, stimulus, stimuli_from, rows_from}
use Rattle.fb_types.proofs.Common.{append-nil}
use Rattle.fb_types.specs.declared.deploy.Stimulus.{Stimulus}
use Rattle.csv.specs.Reading.{default_config, records, strip_bom}
use Rattle.csv.specs.declared.parser.State.{State}
use Rattle.csv.specs.declared.parser.State.TheVariants as st
use Rattle.fb_inputs.specs.declared.location.StimuliFault.{StimuliFault}
use Rattle.fb_inputs.specs.declared.location.StimuliLocation.{StimuliLocation}
use Rattle.fb_inputs.specs.declared.location.StimuliLocation.TheVariants.{Heading}
use Rattle.fb_inputs.specs.StimuliLocations.{InRow, Located, at_row, number_at, numbered, location_of, row_at}
use Rattle.fb_inputs.specs.Refusals.{number_of}
use Rattle.fb_inputs.specs.declared.error.InputError.{InputError}
use Rattle.fb_inputs.specs.declared.location.RowError.{RowError}
use Rattle.fb_inputs.proofs.lemmas.Each.{nothing_before, regroup_at}
use Rattle.fb_inputs.specs.Stimuli.{stimulus_at, stimuli, stimuli_in, stimuli_of, is_head, most_bytes}
use Rattle.fb_inputs.specs.Readers.{HasOtherHead}

abbrev found_all : List Stimulus → Located (List Stimulus)
found_all all = Ok all

pub next_found : (front : List Stimulus) (row : Row) (rows rest : List Row) (s : Stimulus) (total : Located (List Stimulus)) → rest ≡ row ∷ rows → stimulus_at (length front) row ≡ Ok s
    → total ≡ all_after front (stimuli_from (length front) rest) → total ≡ all_after (front ++ s ∷ []) (stimuli_from (length (front ++ s ∷ [])) rows)
unfolding stimuli_from
next_found front row rows rest s total split found so_far =
    rw split at so_far ∙ (rw (found, length_push front s) (regroup_at front s (stimuli_from (length front + 1) rows)))

refused_by : (front : List Stimulus) (row : Row) (rows rest : List Row) (n : StimuliLocation) (total : Located (List Stimulus)) → rest ≡ row ∷ rows → stimulus_at (length front) row ≡ Err n
    → total ≡ all_after front (stimuli_from (length front) rest) → total ≡ Err n
unfolding stimuli_from
refused_by front row rows rest n total split refused so_far = rw split at so_far ∙ rw refused refl

pub next_refused : (e : StimuliFault) (front : List Stimulus) (row : Row) (rows rest : List Row) (total : Located (List Stimulus)) → rest ≡ row ∷ rows
    → IfSome (location_of e) (λ n. stimulus_at (length front) row ≡ Err n) → total ≡ all_after front (stimuli_from (length front) rest) → IfSome (location_of e) (λ n. total ≡ Err n)
next_refused e front row rows rest total split refused so_far = by (location_of e) refused
  where
    by : (o : Option StimuliLocation) → IfSome o (λ n. stimulus_at (length front) row ≡ Err n) → IfSome o (λ n. total ≡ Err n)
    by None h = tt
    by (Some n) h = refused_by front row rows rest n total split h so_far

pub none_left : (front : List Stimulus) (rest : List Row) (total : Located (List Stimulus)) → rest ≡ [] → total ≡ all_after front (stimuli_from (length front) rest) → total ≡ Ok front
unfolding stimuli_from
none_left front rest total split so_far = rw split at so_far ∙ ap found_all (append-nil front)

-- ---- From the bytes to the first row

pub start_read : (bytes : Text) (s : State) (all : List Row) → s ≡ st.StartRecord → rows_from s (strip_bom bytes) ≡ all → records default_config (strip_bom bytes) ≡ all
start_read bytes s all start read = ap (λ (t : State). rows_from t (strip_bom bytes)) (sym start) ∙ read

opened : (bytes : Text) (rows : List Row) → length bytes ≤ most_bytes → records default_config (strip_bom bytes) ≡ rows → stimuli_in bytes ≡ stimuli rows
unfolding stimuli_in
opened bytes rows le all = rw (le-leb (length bytes) most_bytes le) (ap stimuli all)

pub headed : (bytes : Text) (head : Row) (rows : List Row) → length bytes ≤ most_bytes → records default_config (strip_bom bytes) ≡ head ∷ rows → is_head head ≡ true
    → stimuli_in bytes ≡ all_after [] (stimuli_from 0 rows)
unfolding stimuli
headed bytes head rows le all yes_head = opened bytes (head ∷ rows) le all ∙ rw yes_head (nothing_before (stimuli_from 0 rows))

pub unheaded : (bytes : Text) (head : Row) (rows : List Row) → length bytes ≤ most_bytes → records default_config (strip_bom bytes) ≡ head ∷ rows → is_head head ≡ false
    → stimuli_in bytes ≡ Err Heading
unfolding stimuli
unheaded bytes head rows le all no_head = opened bytes (head ∷ rows) le all ∙ rw no_head refl

pub no_heading : (bytes : Text) (e : StimuliFault) → length bytes ≤ most_bytes → IfSome (location_of e) (λ p. (p ≡ Heading) × HasOtherHead bytes) → IfSome (location_of e) (λ n. stimuli_in bytes ≡ Err n)
no_heading bytes e le h = by (location_of e) h
  where
    by : (o : Option StimuliLocation) → IfSome o (λ n. (n ≡ Heading) × HasOtherHead bytes) → IfSome o (λ n. stimuli_in bytes ≡ Err n)
    by None h = tt
    by (Some n) h = rw h.0 (unheaded bytes h.1.first h.1.rows le h.1.read h.1.other)

pub empty : (bytes : Text) → length bytes ≤ most_bytes → records default_config (strip_bom bytes) ≡ [] → stimuli_in bytes ≡ Ok []
unfolding stimuli
empty bytes le all = opened bytes [] le all

-- ---- The number of a refusal

by_number : (bytes : Text) (o : Option StimuliLocation) → IfSome o (λ p. stimuli_in bytes ≡ Err p) → IfSome (option_map number_at o) (λ n. stimuli_of bytes ≡ Err n)
unfolding stimuli_of
by_number bytes None h = tt
by_number bytes (Some p) h = ap (λ (o : Located (List Stimulus)). numbered o) h

pub refused_number : (bytes : Text) (e : StimuliFault) (g : InputError) → number_of g ≡ option_map number_at (location_of e) → IfSome (location_of e) (λ p. stimuli_in bytes ≡ Err p)
    → IfSome (number_of g) (λ n. stimuli_of bytes ≡ Err n)
refused_number bytes e g is h = rw is (by_number bytes (location_of e) h)

pub taken : (bytes : Text) (all : List Stimulus) → stimuli_in bytes ≡ Ok all → stimuli_of bytes ≡ Ok all
unfolding stimuli_of
taken bytes all h = ap (λ (o : Located (List Stimulus)). numbered o) h

by_row : (k : ℕ) (row : Row) (o : Option RowFault) → IfSome o (λ why. stimulus k row ≡ Err why) → IfSome (option_map (row_at k) o) (λ p. stimulus_at k row ≡ Err p)
unfolding stimulus_at
by_row k row None h = tt
by_row k row (Some why) h = ap (λ (o : InRow Stimulus). at_row k o) h

pub refused_at_row : (k : ℕ) (row : Row) (e : RowError) (g : StimuliFault) → location_of g ≡ option_map (row_at k) (fault_of e) → IfSome (fault_of e) (λ why. stimulus k row ≡ Err why)
    → IfSome (location_of g) (λ p. stimulus_at k row ≡ Err p)
refused_at_row k row e g is h = rw is (by_row k row (fault_of e) h)

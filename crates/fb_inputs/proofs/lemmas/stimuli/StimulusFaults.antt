-- Where stimuli are refused, something is wrong.
use Rattle.fb_inputs.proofs.lemmas.Common.{◌≡◌, ℕ, zero, suc, ◌+◌, Bool, true, false, cond, ltb, List, [], ◌∷◌, length, Option, Some, None, Ok, Err, refl, sym, ap, subst, ◌∙◌, arith, Result, slice_get, ◌^◌, option_map, RowFault, each_at, each_in, placed, value_at, and_then, or_refuse, Row, setting, stimulus, stimuli_from, Text}
use Rattle.fb_types.proofs.Common.{leb, leb-false, ltb-false}
use Rattle.fb_types.specs.declared.deploy.Setting.{Setting}
use Rattle.fb_types.specs.declared.deploy.Stimulus.{Stimulus}
use Rattle.csv.specs.Reading.{records, default_config, strip_bom}
use Rattle.fb_inputs.specs.declared.row.Draft.{Draft}
use Rattle.fb_inputs.specs.declared.row.Word.{Word}
use Rattle.fb_inputs.specs.declared.location.RowFault.TheVariants as fault
use Rattle.fb_inputs.specs.declared.location.StimuliLocation.{StimuliLocation}
use Rattle.fb_inputs.specs.declared.location.StimuliLocation.TheVariants as location
use Rattle.fb_inputs.specs.Faults.{IsFaultAt, IsRefusedAt, IsRowFault}
use Rattle.fb_inputs.specs.Numbers.{natural}
use Rattle.fb_inputs.specs.StimuliLocations.{InRow, at_row, row_at, word_at}
use Rattle.fb_inputs.specs.Rows.{draft, event, word, words}
use Rattle.fb_inputs.specs.Stimuli.{is_head, limited, most_bytes, most_rows, stimulus_at, stimuli, stimuli_in, three}

-- ---- lists of which each element may fail

-- the element that has no result
pub record Fails {A B N : Type 0} (why : ℕ → N) (f : A → Option B) (k : ℕ) (xs : List A) (n : N) : Type 0 where
  pub index : ℕ
  pub element : A
  pub at_index : slice_get xs index ≡ Some element
  pub none : f element ≡ None
  pub is : n ≡ why (k + index)

-- the element of which a result was made
pub record MadeOf {A B : Type 0} (f : A → Option B) (xs : List A) (k : ℕ) (y : B) : Type 0 where
  pub element : A
  pub at_index : slice_get xs k ≡ Some element
  pub found : f element ≡ Some y

abbrev pub refusal_of : {T N : Type 0} → N → Result T N
refusal_of n = Err n

pub same_refusal : {T N : Type 0} (m n : N) → refusal_of {T = T} m ≡ refusal_of n → m ≡ n
same_refusal m n e = cc

-- the rest, once an element has a result
abbrev rest_of : {B N : Type 0} → B → Result (List B) N → Result (List B) N
rest_of y o = and_then o (λ ys. Ok (y ∷ ys))

rest_fails : {B N : Type 0} (y : B) (n : N) (o : Result (List B) N) → rest_of y o ≡ Err n → o ≡ Err n
rest_fails y n (Ok ys) e = absurd cc
rest_fails y n (Err m) e = cc

pub failed : {A B N : Type 0} (why : ℕ → N) (f : A → Option B) (k : ℕ) (xs : List A) (n : N) → each_at why f k xs ≡ Err n → Fails why f k xs n
unfolding each_at
failed why f k [] n h = absurd cc
failed {A} {B} {N} why f k (x ∷ xs) n h = go (λ e. failed why f (k + 1) xs n e) (f x) refl h
  where
    go : (each_at why f (k + 1) xs ≡ Err n → Fails why f (k + 1) xs n) → (o : Option B) → f x ≡ o → and_then (or_refuse (why k) o) (λ y. rest_of y (each_at why f (k + 1) xs)) ≡ Err n → Fails why f k (x ∷ xs) n
    go later None none e =
        let first : why (k + 0) ≡ why k = ap why (omega arith) in
        record { index = 0; element = x; at_index = refl; none = none; is = sym (same_refusal {T = List B} (why k) n e) ∙ sym first }
    go later (Some y) some e =
        let w = later (rest_fails y n (each_at why f (k + 1) xs) e) in
        let moved : why (k + 1 + w.index) ≡ why (k + suc w.index) = ap why (omega arith) in
        record { index = suc w.index; element = w.element; at_index = w.at_index; none = w.none; is = w.is ∙ moved }

-- the element that says what is wrong with it
pub record FailsIn {A B M N : Type 0} (at : ℕ → M → N) (f : A → Result B M) (k : ℕ) (xs : List A) (n : N) : Type 0 where
  pub index : ℕ
  pub element : A
  pub at_index : slice_get xs index ≡ Some element
  pub why : M
  pub wrong : f element ≡ Err why
  pub is : n ≡ at (k + index) why

pub failed_in : {A B M N : Type 0} (at : ℕ → M → N) (f : A → Result B M) (k : ℕ) (xs : List A) (n : N) → each_in at f k xs ≡ Err n → FailsIn at f k xs n
unfolding each_in
failed_in at f k [] n h = absurd cc
failed_in {A} {B} {M} {N} at f k (x ∷ xs) n h = go (λ e. failed_in at f (k + 1) xs n e) (f x) refl h
  where
    go : (each_in at f (k + 1) xs ≡ Err n → FailsIn at f (k + 1) xs n) → (o : Result B M) → f x ≡ o → and_then (placed (at k) o) (λ y. rest_of y (each_in at f (k + 1) xs)) ≡ Err n → FailsIn at f k (x ∷ xs) n
    go later (Err why) wrong e =
        let first : at (k + 0) why ≡ at k why = ap (λ i. at i why) (omega arith) in
        record { index = 0; element = x; at_index = refl; why = why; wrong = wrong; is = sym (same_refusal {T = List B} (at k why) n e) ∙ sym first }
    go later (Ok y) right e =
        let w = later (rest_fails y n (each_in at f (k + 1) xs) e) in
        let moved : at (k + 1 + w.index) w.why ≡ at (k + suc w.index) w.why = ap (λ i. at i w.why) (omega arith) in
        record { index = suc w.index; element = w.element; at_index = w.at_index; why = w.why; wrong = w.wrong; is = w.is ∙ moved }

pub length_in : {A B M N : Type 0} (at : ℕ → M → N) (f : A → Result B M) (k : ℕ) (xs : List A) (ys : List B) → each_in at f k xs ≡ Ok ys → length ys ≡ length xs
unfolding each_in
length_in at f k [] ys h = let none : ys ≡ [] = cc in ap (λ zs. length zs) none
length_in {A} {B} {M} {N} at f k (x ∷ xs) ys h = go (λ zs e. length_in at f (k + 1) xs zs e) (placed (at k) (f x)) (each_in at f (k + 1) xs) refl h
  where
    go : ((zs : List B) → each_in at f (k + 1) xs ≡ Ok zs → length zs ≡ length xs) → (p : Result B N) (o : Result (List B) N) → each_in at f (k + 1) xs ≡ o → and_then p (λ y. rest_of y o) ≡ Ok ys → length ys ≡ length (x ∷ xs)
    go later (Err m) o is e = absurd cc
    go later (Ok y) (Err m) is e = absurd cc
    go later (Ok y) (Ok zs) is e = let same : ys ≡ y ∷ zs = cc in ap (λ us. length us) same ∙ ap suc (later zs is)

pub made_of : {A B N : Type 0} (why : ℕ → N) (f : A → Option B) (k : ℕ) (xs : List A) (ys : List B) (i : ℕ) (y : B) → each_at why f k xs ≡ Ok ys → slice_get ys i ≡ Some y → MadeOf f xs i y
unfolding each_at
made_of why f k [] [] i y h at = absurd cc
made_of why f k [] (z ∷ zs) i y h at = absurd cc
made_of {A} {B} {N} why f k (x ∷ xs) ys i y h at = go (λ zs j e there. made_of why f (k + 1) xs zs j y e there) (f x) refl h
  where
    here : (zs : List B) (z : B) (j : ℕ) → ((us : List B) (m : ℕ) → each_at why f (k + 1) xs ≡ Ok us → slice_get us m ≡ Some y → MadeOf f xs m y) → f x ≡ Some z → each_at why f (k + 1) xs ≡ Ok zs
        → slice_get (z ∷ zs) j ≡ Some y → MadeOf f (x ∷ xs) j y
    here zs z zero later some e there = let same : z ≡ y = cc in record { element = x; at_index = refl; found = some ∙ ap (λ (u : B). Some u) same }
    here zs z (suc j) later some e there = let w = later zs j e there in record { element = w.element; at_index = w.at_index; found = w.found }

    following : (z : B) (o : Result (List B) N) → ((us : List B) (m : ℕ) → each_at why f (k + 1) xs ≡ Ok us → slice_get us m ≡ Some y → MadeOf f xs m y) → f x ≡ Some z → each_at why f (k + 1) xs ≡ o
        → rest_of z o ≡ Ok ys → MadeOf f (x ∷ xs) i y
    following z (Ok zs) later some is e = let same : z ∷ zs ≡ ys = cc in here zs z i later some is (ap (λ (us : List B). slice_get us i) same ∙ at)
    following z (Err n) later some is e = absurd cc

    go : ((us : List B) (m : ℕ) → each_at why f (k + 1) xs ≡ Ok us → slice_get us m ≡ Some y → MadeOf f xs m y) → (o : Option B) → f x ≡ o
        → and_then (or_refuse (why k) o) (λ z. rest_of z (each_at why f (k + 1) xs)) ≡ Ok ys → MadeOf f (x ∷ xs) i y
    go later None none e = absurd cc
    go later (Some z) some e = following z (each_at why f (k + 1) xs) later some refl e

-- ---- a row

pub none_of : {A B : Type 0} (f : A → B) (o : Option A) → option_map f o ≡ None → o ≡ None
none_of f None h = refl
none_of f (Some x) h = absurd cc

-- what follows the shape of a row
abbrev after_shape : ℕ → Text × Text × Text → Draft → InRow Stimulus
after_shape before f drawn =
    and_then (or_refuse fault.Tick (natural f.0)) (λ tick. and_then (each_at value_at setting 0 drawn.words) (λ settings.
    limited before (record { tick = tick; instance = drawn.instance; event = drawn.event; settings = settings })))

abbrev drawn_of : Text × Text → List Word → Draft
drawn_of ends found = record { instance = ends.0; event = ends.1; words = found }

module _ (before : ℕ) (row : Row) (why : RowFault) where
  this : (m : RowFault) → IsRowFault before row m → refusal_of {T = Stimulus} m ≡ refusal_of why → IsRowFault before row why
  this m w e = subst (λ (n : RowFault). IsRowFault before row n) (same_refusal {T = Stimulus} m why e) w

  limits : (f : Text × Text × Text) → three row ≡ Some f → (tick : ℕ) → natural f.0 ≡ Some tick → (s : Stimulus) → (b c : Bool) → leb tick (10 ^ 12) ≡ b → ltb before most_rows ≡ c
      → cond b (cond c (Ok s) (Err fault.Crowded)) (Err fault.Late) ≡ Err why → IsRowFault before row why
  limits f at tick is s true true x y e = absurd cc
  limits f at tick is s true false x y e = this fault.Crowded (ltb-false before most_rows y) e
  limits f at tick is s false c x y e = this fault.Late (f, at, (tick, is, leb-false tick (10 ^ 12) x)) e

  module _ (f : Text × Text × Text) (at : three row ≡ Some f) (ends : Text × Text) where
    valued : (found : List Word) → each_at word_at word 0 (words f.2) ≡ Ok found → (tick : ℕ) → natural f.0 ≡ Some tick → (o : InRow (List Setting)) → each_at value_at setting 0 found ≡ o
        → and_then o (λ settings. limited before (record { tick = tick; instance = ends.0; event = ends.1; settings = settings })) ≡ Err why → IsRowFault before row why
    valued found read tick n (Ok settings) is e =
        limits f at tick n (record { tick = tick; instance = ends.0; event = ends.1; settings = settings }) (leb tick (10 ^ 12)) (ltb before most_rows) refl refl e
    valued found read tick n (Err m) is e =
        let w = failed value_at setting 0 found m is in
        let v = made_of word_at word 0 (words f.2) found w.index w.element read w.at_index in
        let same : 0 + w.index ≡ w.index = omega arith in
        let fault_is : m ≡ fault.Value w.index = w.is ∙ ap value_at same in
        this (fault.Value w.index) (f, at, (v.element, v.at_index, (w.element, v.found, none_of _ w.element.value w.none)))
        (ap (λ (x : RowFault). refusal_of {T = Stimulus} x) (sym fault_is) ∙ e)

    counted : (found : List Word) → each_at word_at word 0 (words f.2) ≡ Ok found → (o : Option ℕ) → natural f.0 ≡ o
        → and_then (or_refuse fault.Tick o) (λ tick. and_then (each_at value_at setting 0 found) (λ settings.
        limited before (record { tick = tick; instance = ends.0; event = ends.1; settings = settings }))) ≡ Err why → IsRowFault before row why
    counted found read None n e = this fault.Tick (f, at, n) e
    counted found read (Some tick) n e = valued found read tick n (each_at value_at setting 0 found) refl e

    worded : (o : InRow (List Word)) → each_at word_at word 0 (words f.2) ≡ o → and_then (and_then o (λ found. Ok (drawn_of ends found))) (after_shape before f) ≡ Err why → IsRowFault before row why
    worded (Ok found) read e = counted found read (natural f.0) refl e
    worded (Err m) read e =
        let w = failed word_at word 0 (words f.2) m read in
        let same : 0 + w.index ≡ w.index = omega arith in
        let fault_is : m ≡ fault.Word w.index = w.is ∙ ap word_at same in
        this (fault.Word w.index) (f, at, (w.element, w.at_index, w.none)) (ap (λ (x : RowFault). refusal_of {T = Stimulus} x) (sym fault_is) ∙ e)

  shaped : (f : Text × Text × Text) → three row ≡ Some f → (o : Option (Text × Text)) → event f.1 ≡ o
      → and_then (and_then (or_refuse fault.Event o) (λ ends. and_then (each_at word_at word 0 (words f.2)) (λ found. Ok (drawn_of ends found)))) (after_shape before f) ≡ Err why → IsRowFault before row why
  shaped f at None n e = this fault.Event (f, at, n) e
  shaped f at (Some ends) n e = worded f at ends (each_at word_at word 0 (words f.2)) refl e

  fields : (o : Option (Text × Text × Text)) → three row ≡ o → and_then (or_refuse fault.Fields o) (λ f. and_then (draft f.1 f.2) (after_shape before f)) ≡ Err why → IsRowFault before row why
  unfolding draft
  fields None at e = this fault.Fields at e
  fields (Some f) at e = shaped f at (event f.1) refl e

  pub row_faulty : stimulus before row ≡ Err why → IsRowFault before row why
  unfolding stimulus
  row_faulty h = fields (three row) refl h

-- ---- rows

pub record RowFaulty (k : ℕ) (rows : List Row) (p : StimuliLocation) : Type 0 where
  pub index : ℕ
  pub before : ℕ
  pub counted : before ≡ k + index
  pub row : Row
  pub at_index : slice_get rows index ≡ Some row
  pub why : RowFault
  pub wrong : IsRowFault before row why
  pub is : p ≡ row_at before why

pub rows_faulty : (k : ℕ) (rows : List Row) (p : StimuliLocation) → stimuli_from k rows ≡ Err p → RowFaulty k rows p
unfolding stimuli_from stimulus_at
rows_faulty k [] p h = absurd cc
rows_faulty k (row ∷ rows) p h = go (λ e. rows_faulty (k + 1) rows p e) (stimulus k row) refl h
  where
    go : (stimuli_from (k + 1) rows ≡ Err p → RowFaulty (k + 1) rows p) → (o : InRow Stimulus) → stimulus k row ≡ o → and_then (at_row k o) (λ s. rest_of s (stimuli_from (k + 1) rows)) ≡ Err p
        → RowFaulty k (row ∷ rows) p
    go later (Err why) is e = record {
      index = 0;
      before = k;
      counted = omega arith;
      row = row;
      at_index = refl;
      why = why;
      wrong = row_faulty k row why is;
      is = sym (same_refusal {T = List Stimulus} (row_at k why) p e);
    }
    go later (Ok s) is e =
        let w = later (rest_fails s p (stimuli_from (k + 1) rows) e) in
        let n = w.counted in
        record {
          index = suc w.index;
          before = w.before;
          counted = omega arith;
          row = w.row;
          at_index = w.at_index;
          why = w.why;
          wrong = w.wrong;
          is = w.is;
        }

-- ---- all bytes

module _ (bytes : Text) (p : StimuliLocation) where
  there : (q : StimuliLocation) → IsFaultAt bytes q → refusal_of {T = List Stimulus} q ≡ refusal_of p → IsFaultAt bytes p
  there q w e = subst (λ (x : StimuliLocation). IsFaultAt bytes x) (same_refusal {T = List Stimulus} q p e) w

  headed : (head : Row) (rows : List Row) → records default_config (strip_bom bytes) ≡ head ∷ rows → (b : Bool) → is_head head ≡ b → cond b (stimuli_from 0 rows) (Err location.Heading) ≡ Err p → IsFaultAt bytes p
  headed head rows read true test e =
      let w = rows_faulty 0 rows p e in
      let n = w.counted in
      let same : w.before ≡ w.index = omega arith in
      let found : IsFaultAt bytes (row_at w.before w.why) =
      (w.row, record { head = head; rows = rows; read = read; headed = test; at_index = ap (λ i. slice_get rows i) same ∙ w.at_index }, w.wrong) in
      subst (λ (x : StimuliLocation). IsFaultAt bytes x) (sym w.is) found
  headed head rows read false test e = there location.Heading (record { first = head; rows = rows; read = read; other = test }) e

  recorded : (rows : List Row) → records default_config (strip_bom bytes) ≡ rows → stimuli rows ≡ Err p → IsFaultAt bytes p
  unfolding stimuli
  recorded [] read e = absurd cc
  recorded (head ∷ rows) read e = headed head rows read (is_head head) refl e

  sized : (b : Bool) → leb (length bytes) most_bytes ≡ b → cond b (stimuli (records default_config (strip_bom bytes))) (Err location.Bytes) ≡ Err p → IsFaultAt bytes p
  sized true le e = recorded (records default_config (strip_bom bytes)) refl e
  sized false gt e = there location.Bytes (leb-false (length bytes) most_bytes gt) e

  pub refused-at : stimuli_in bytes ≡ Err p → IsRefusedAt bytes p
  unfolding stimuli_in
  refused-at h = (h, sized (leb (length bytes) most_bytes) refl h)

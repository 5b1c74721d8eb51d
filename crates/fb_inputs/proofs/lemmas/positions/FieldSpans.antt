-- Fields and words of stimuli, which are at one place.
use Rattle.fb_inputs.proofs.lemmas.Common.{◌≡◌, ◌==◌, ℕ, ◌-◌, ◌<◌, ◌≤◌, true, false, length, drop, inl, inr, sym, subst, ap, ◌∙◌, arith, at, count_below}
use Rattle.std.proofs.Common.{◌⊎◌}
use Rattle.std.proofs.lemmas.Bool.{and_parts, cases_order, eqb-true, false≢true}
use Rattle.fb_read.specs.declared.token.Span.{Span}
use Rattle.fb_inputs.specs.Counts.{Text, IsNth}
use Rattle.fb_inputs.specs.NearSpans.{IsField, IsFieldAt, IsWordAt, IsWordIn, bytes_of}
use Rattle.fb_inputs.specs.Records.{BeginsField, HasLength, IsInRecord, IsReadAt, begins_record, ends_field, ends_record, is_comma, is_line_end, is_outside, said}
use Rattle.fb_inputs.proofs.lemmas.positions.Counting.{few_below, not_before, one_nth}

pub same_span : (a b : Span) → a.start ≡ b.start → a.end ≡ b.end → a ≡ b
same_span a b start end = λ i. record { start = start i; end = end i }

-- ---- Fields of a record

no_line_end : (b : ℕ) → b ≡ 44 → is_line_end b ≡ true → ⊥
no_line_end b is ends = false≢true (rw is at ends)

comma_inside : (z : Text) (n : ℕ) → is_comma z n ≡ true → ends_record z n ≡ true → ⊥
comma_inside z n comma ends =
    no_line_end (at z n) (eqb-true (at z n) 44 (and_parts (is_outside z n) (at z n == 44) comma).1) (and_parts (is_outside z n) (is_line_end (at z n)) ends).1

-- a comma of the record is not after its end
pub no_comma_past :
    (z : Text) (index count n : ℕ) → count ≡ count_below (is_comma z) n → count ≤ index → ends_record z n ≡ true → (offset : ℕ) → IsNth z (is_comma z) index offset × IsInRecord z offset → ⊥
no_comma_past z index count n counted few ends offset found = go (cases_order offset n)
  where
    go : (offset ≡ n) ⊎ ((offset < n) ⊎ (n < offset)) → ⊥
    go (inl same) = comma_inside z n (ap (is_comma z) (sym same) ∙ found.0.passes) ends
    go (inr (inl less)) = not_before z (is_comma z) index count n offset counted few found.0 less
    go (inr (inr more)) = false≢true (sym (found.1 n more) ∙ ends)

-- a later field begins after a comma
pub no_field_from :
    (z : Text) (index : ℕ) → (index ≡ 0 → ⊥) → ((offset : ℕ) → IsNth z (is_comma z) (index - 1) offset × IsInRecord z offset → ⊥) → (offset : ℕ) → BeginsField z index offset → ⊥
no_field_from z index later none offset (inl first) = later first.0
no_field_from z index later none offset (inr after) =
    let same : after.0 ≡ index - 1 = omega (arith, after.2) in
    none after.1 (subst (λ (k : ℕ). IsNth z (is_comma z) k after.1) same after.4, after.5)

one_begin : (z : Text) (index a b : ℕ) → BeginsField z index a → BeginsField z index b → a ≡ b
one_begin z index a b (inl x) (inl y) = omega (arith, x.1, y.1)
one_begin z index a b (inl x) (inr y) = absurd (omega (arith, x.0, y.2))
one_begin z index a b (inr x) (inl y) = absurd (omega (arith, x.2, y.0))
one_begin z index a b (inr x) (inr y) =
    let before : x.0 ≡ y.0 = omega (arith, x.2, y.2) in
    let comma : x.1 ≡ y.1 = one_nth z (is_comma z) y.0 x.1 y.1 (subst (λ (k : ℕ). IsNth z (is_comma z) k x.1) before x.4) y.4 in
    omega (arith, comma, x.3, y.3)

one_len : (z : Text) (a b : ℕ) → HasLength z a → HasLength z b → a ≡ b
one_len z a b at_a at_b = go (cases_order a b)
  where
    longer : (m n : ℕ) → HasLength z m → HasLength z n → m < n → (m ≡ length z) ⊎ (ends_field z m ≡ true) → ⊥
    longer m n at_m at_n less (inl whole) = omega (arith, whole, at_n.within, less)
    longer m n at_m at_n less (inr ends) = false≢true (sym (at_n.inside m less) ∙ ends)

    go : (a ≡ b) ⊎ ((a < b) ⊎ (b < a)) → a ≡ b
    go (inl same) = same
    go (inr (inl less)) = absurd (longer a b at_a at_b less at_a.end)
    go (inr (inr more)) = absurd (longer b a at_b at_a more at_b.end)

-- ---- Fields of a text

pub one_field : (text : Text) (index field : ℕ) (a b : Span) → IsFieldAt text index field a → IsFieldAt text index field b → a ≡ b
one_field text index field a b x y =
    let begin : x.begin ≡ y.begin = one_nth text (begins_record text) index x.begin y.begin x.record_begins y.record_begins in
    let inner : x.inner ≡ y.inner = one_begin (drop y.begin text) field x.inner y.inner (subst (λ (n : ℕ). BeginsField (drop n text) field x.inner) begin x.field_begins) y.field_begins in
    let start : a.start ≡ b.start = omega (arith, begin, inner, x.start, y.start) in
    let len : x.len ≡ y.len = one_len (drop b.start text) x.len y.len (subst (λ (n : ℕ). HasLength (drop n text) x.len) start x.has_length) y.has_length in
    let end : a.end ≡ b.end = omega (arith, start, len, x.end, y.end) in
    same_span a b start end

-- there is none in a record in which none begins
pub no_field_in :
    (text : Text) (index field begin : ℕ) → IsNth text (begins_record text) index begin → ((offset : ℕ) → BeginsField (drop begin text) field offset → ⊥) → (span : Span) → IsFieldAt text index field span → ⊥
no_field_in text index field begin here none span x =
    let same : x.begin ≡ begin = one_nth text (begins_record text) index x.begin begin x.record_begins here in
    none x.inner (subst (λ (n : ℕ). BeginsField (drop n text) field x.inner) same x.field_begins)

-- the index of a record is less than the length of the text
pub index_below : (text : Text) (index field : ℕ) (span : Span) → IsFieldAt text index field span → index < length text
index_below text index field span x = omega (arith, few_below (begins_record text) x.begin, x.record_begins.before, x.record_begins.within)

-- a word of the last field is one of the field that was found
pub word_inside : (text : Text) (index word : ℕ) (field span : Span) → IsField text index 2 field → IsWordAt text index word span → IsWordIn text field word span
word_inside text index word field span here (other, there, inside) =
    subst (λ (f : Span). IsWordIn text f word span) (one_field text index 2 other field there.at here.at) inside

-- nothing else is read in the field that was found
pub no_other :
    (text : Text) (index field : ℕ) (here : Span) → IsFieldAt text index field here → (IsReadAt text index field (said (bytes_of text here)) → ⊥) → (span : Span) → IsField text index field span → ⊥
no_other text index field here found none span other =
    none (subst (λ (s : Span). IsReadAt text index field (said (bytes_of text s))) (one_field text index field span here other.at found) other.read)

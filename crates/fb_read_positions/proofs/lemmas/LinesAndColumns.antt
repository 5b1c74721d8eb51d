-- Lines and columns of a text that goes on.
use Rattle.fb_types.proofs.Common.{◌≡◌, ◌<◌, ◌≤◌, ◌+◌, ◌-◌, ◌==◌, ℕ, zero, suc, Bool, true, false, cond, not, length, take, drop, get_or, slice_index, count_by, sum_by, refl, sym, ◌∙◌, ap, arith, get_or-take, get_or-drop, length-take-le, length-drop}
use Rattle.std.proofs.lemmas.List.Folds.{drop_split}
use Rattle.std.proofs.lemmas.List.Sums.{sum_by-append, sum_by-take-drop, suffix_len_is, suffix_len-take_yes}
use Rattle.std.specs.List.{slice_range, suffix_len}
use Rattle.memchr.specs.Find.{Nowhere, Passes, is_byte}
use Rattle.fb_read.specs.Blank.{Text}

abbrev pub is_other : ℕ → Bool
is_other b = not (b == 10)

-- the line feeds up to an offset are those up to an earlier one and those between
pub lines_passed : (text : Text) (from to : ℕ) → from ≤ to → count_by (λ b. b == 10) (take to text) ≡ count_by (λ b. b == 10) (take from text) + count_by (λ b. b == 10) (slice_range text from to)
lines_passed text from to ordered =
    let f : ℕ → ℕ = λ b. cond (b == 10) 1 0 in
    let early = sum_by-take-drop f text from in
    let late = sum_by-take-drop f text to in
    let between : sum_by f (drop from text) ≡ sum_by f (slice_range text from to) + sum_by f (drop to text) =
    ap (λ (xs : Text). sum_by f xs) (drop_split text from to ordered) ∙ sum_by-append f (slice_range text from to) (drop to text) in
    omega (arith, early, late, between)

-- what a test says of a byte, from the outside
other_true : (b : Bool) → (b ≡ true → ⊥) → not b ≡ true
other_true true none = absurd (none refl)
other_true false none = refl

-- a byte between two offsets
byte_between : (text : Text) (from to k : ℕ) → from ≤ k → k < to → slice_index (slice_range text from to) (k - from) ≡ get_or text k 0
byte_between text from to k low high =
    let there : from + (k - from) ≡ k = omega arith in
    get_or-take (to - from) (drop from text) (k - from) 0 (omega arith) ∙ get_or-drop from text (k - from) 0 ∙ ap (λ (n : ℕ). get_or text n 0) there

-- a byte between two offsets that is not found is another one
passed_over : (text : Text) (from to k : ℕ) → from ≤ k → k < to → (Passes (is_byte 10) (slice_range text from to) (k - from) → ⊥) → is_other (get_or text k 0) ≡ true
passed_over text from to k low high none =
    ap (λ (b : ℕ). is_other b) (sym (byte_between text from to k low high)) ∙ other_true (slice_index (slice_range text from to) (k - from) == 10) none

length_between : (text : Text) (from to : ℕ) → from ≤ to → to ≤ length text → length (slice_range text from to) ≡ to - from
length_between text from to ordered within =
    let rest = length-drop from text in
    length-take-le (to - from) (drop from text) (omega (arith, rest))

-- the columns after the last line feed between two offsets
pub column_past :
    (text : Text) (from to k : ℕ) → from ≤ to → to ≤ length text → k < length (slice_range text from to) → Passes (is_byte 10) (slice_range text from to) k
    → Nowhere (Passes (is_byte 10) (slice_range text from to)) (k + 1) (length (slice_range text from to)) → suffix_len is_other (take to text) ≡ length (slice_range text from to) - k - 1
column_past text from to k ordered within high found after =
    let size = length_between text from to ordered within in
    let all = length-take-le to text within in
    let here : (from + k + 1 - 1) - from ≡ k = omega arith in
    let last : slice_index (slice_range text from to) k ≡ get_or (take to text) (from + k + 1 - 1) 0 =
    ap (λ (n : ℕ). slice_index (slice_range text from to) n) (sym here) ∙ byte_between text from to (from + k + 1 - 1) (omega arith) (omega (arith, size)) ∙ sym (get_or-take to text (from + k + 1 - 1) 0 (omega (arith, size))) in
    let is = suffix_len_is is_other (take to text) (from + k + 1) 0 (omega (arith, size, all))
    (λ j low below. ap (λ (b : ℕ). is_other b) (get_or-take to text j 0 (omega (arith, all))) ∙ passed_over text from to j (omega arith) (omega (arith, all)) (after (j - from) (omega arith) (omega (arith, size, all))))
    (λ some. ap (λ (b : ℕ). is_other b) (sym last) ∙ ap (λ (b : Bool). not b) found) in
    omega (arith, is, size, all)

-- the columns where each byte between two offsets is another one
columns_on : (text : Text) (from j n : ℕ) → n ≡ from + j → n ≤ length text → ((k : ℕ) → from ≤ k → k < n → is_other (get_or text k 0) ≡ true) → suffix_len is_other (take n text) ≡ j + suffix_len is_other (take from text)
columns_on text from zero n e within others =
    let same : n ≡ from = omega arith in
    let is = ap (λ (m : ℕ). suffix_len is_other (take m text)) same in
    omega (arith, is)
columns_on text from (suc j) n e within others =
    let more = suffix_len-take_yes is_other text n 0 (omega arith) within (others (n - 1) (omega arith) (omega arith)) in
    let before = columns_on text from j (n - 1) (omega arith) (omega arith) (λ k low high. others k low (omega arith)) in
    omega (arith, more, before)

pub column_on :
    (text : Text) (from to : ℕ) → from ≤ to → to ≤ length text → Nowhere (Passes (is_byte 10) (slice_range text from to)) 0 (length (slice_range text from to))
    → suffix_len is_other (take to text) ≡ length (slice_range text from to) + suffix_len is_other (take from text)
column_on text from to ordered within none =
    let size = length_between text from to ordered within in
    let is = columns_on text from (to - from) to (omega arith) within (λ k low high. passed_over text from to k low high (none (k - from) (omega arith) (omega (arith, size)))) in
    omega (arith, is, size)

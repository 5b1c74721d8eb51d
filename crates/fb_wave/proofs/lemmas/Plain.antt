-- Which texts are words, and which have no line feed.
use Rattle.fb_types.proofs.Common.{◌≡◌, ℕ, ◌<◌, ◌≤◌, ◌^◌, Bool, true, false, List, [], ◌∷◌, ◌++◌, length, get_or, codes, decimal, refl, ◌∙◌, inl, inr, arith, not, ◌||◌, ◌==◌, list_all, and_parts, and_from, or_cases, or_from, or_parts, ne_eqb, eqb-true, leb-true, not-true, not_from_false, false≢true, list_all-append, Name, Path, pair_up, path_text, value_text, values_text, fits}
use Rattle.fb_types.specs.declared.value.Ty.{Ty}
use Rattle.fb_types.specs.declared.value.Value.{Value}
use Rattle.fb_types.proofs.lemmas.lists.Elements.{Contains-here, Contains-there}
use Rattle.fb_wave.specs.Named.{AreNames, is_digit, is_letter, is_name}
use Rattle.fb_wave.specs.Reading.{fit_each}
use Rattle.fb_wave.specs.Words.{is_end, is_word}
use Rattle.fb_wave.proofs.lemmas.Numerals.{digits_of}
use Rattle.fb_wave.proofs.lemmas.Valued.{fits_small, value_word}

-- ---- Bytes

pub letter_low : (b : ℕ) → is_letter b ≡ true → 65 ≤ b
letter_low b h =
    elim (or_cases _ _ h) [
      | inl range ↦ leb-true 65 b (and_parts _ _ range).0
      | inr score ↦ (let e = eqb-true b 95 score in omega (arith, e))
    ]

high_is_no_end : (b : ℕ) → 33 ≤ b → is_end b ≡ false
high_is_no_end b low = or_from _ _ (ne_eqb b 32 (λ e. omega (arith, e, low))) (ne_eqb b 10 (λ e. omega (arith, e, low)))

more_low : (b : ℕ) → (is_letter b || is_digit b) ≡ true → 33 ≤ b
more_low b h =
    elim (or_cases (is_letter b) (is_digit b) h) [
      | inl letter ↦ (let low = letter_low b letter in omega (arith, low))
      | inr digit ↦ (let low = leb-true 48 b (and_parts _ _ digit).0 in omega (arith, low))
    ]

-- ---- Words

pub word_both : (u v : List ℕ) → is_word u ≡ true → is_word v ≡ true → is_word (u ++ v) ≡ true
word_both u v one two = list_all-append (λ (b : ℕ). not (is_end b)) u v ∙ and_from (is_word u) (is_word v) one two

more_word : (bs : List ℕ) → list_all (λ c. is_letter c || is_digit c) bs ≡ true → is_word bs ≡ true
more_word [] h = refl
more_word (b ∷ bs) h =
    let parts = and_parts (is_letter b || is_digit b) (list_all (λ c. is_letter c || is_digit c) bs) h in
    and_from (not (is_end b)) (is_word bs) (not_from_false (is_end b) (high_is_no_end b (more_low b parts.0))) (more_word bs parts.1)

pub name_word : (n : Name) → is_name n ≡ true → is_word n ≡ true
name_word [] h = refl
name_word (b ∷ bs) h =
    let parts = and_parts (is_letter b) (list_all (λ c. is_letter c || is_digit c) bs) h in
    let low = letter_low b parts.0 in
    and_from (not (is_end b)) (is_word bs) (not_from_false (is_end b) (high_is_no_end b (omega (arith, low)))) (more_word bs parts.1)

-- a name begins with a letter
pub name_first : (n rest : List ℕ) → is_name n ≡ true → 65 ≤ get_or (n ++ rest) 0 0
name_first [] rest h = absurd (false≢true h)
name_first (b ∷ bs) rest h = letter_low b (and_parts (is_letter b) (list_all (λ c. is_letter c || is_digit c) bs) h).0

pub names_rest : (n : Name) (ns : List Name) → AreNames (n ∷ ns) → AreNames ns
names_rest n ns are m h = are m (Contains-there n ns m h)

pub path_word : (p : Path) → AreNames p → is_word (path_text p) ≡ true
path_word [] are = refl
path_word (n ∷ []) are = name_word n (are n (Contains-here n []))
path_word (n ∷ m ∷ p) are =
    word_both (path_text (m ∷ p) ++ codes ".") n
    (word_both (path_text (m ∷ p)) (codes ".") (path_word (m ∷ p) (names_rest n (m ∷ p) are)) refl)
    (name_word n (are n (Contains-here n (m ∷ p))))

-- ---- Texts without a line feed

abbrev pub is_flat : List ℕ → Bool
is_flat text = list_all (λ b. not (b == 10)) text

pub flat_both : (u v : List ℕ) → is_flat u ≡ true → is_flat v ≡ true → is_flat (u ++ v) ≡ true
flat_both u v one two = list_all-append (λ (b : ℕ). not (b == 10)) u v ∙ and_from (is_flat u) (is_flat v) one two

pub word_flat : (w : List ℕ) → is_word w ≡ true → is_flat w ≡ true
word_flat [] h = refl
word_flat (b ∷ w) h =
    let parts = and_parts (not (is_end b)) (is_word w) h in
    and_from (not (b == 10)) (is_flat w) (not_from_false (b == 10) (or_parts (b == 32) (b == 10) (not-true (is_end b) parts.0)).1) (word_flat w parts.1)

pub number_flat : (n : ℕ) → n < 2 ^ 128 → is_flat (decimal n) ≡ true
number_flat n small = word_flat (decimal n) (digits_of n small).word

-- values of the types at their indexes, with names before them
pub values_flat :
    (ns : List Name) (ts : List Ty) (vs : List Value) → AreNames ns → length ns ≡ length ts → fit_each ts vs ≡ true → is_flat (values_text (pair_up ns vs)) ≡ true
values_flat [] ts vs are long fit = refl
values_flat (n ∷ ns) ts [] are long fit = refl
values_flat (n ∷ ns) [] (v ∷ vs) are long fit = absurd (omega (arith, long))
values_flat (n ∷ ns) (t ∷ ts) (v ∷ vs) are long fit =
    let parts = and_parts (fits t v) (fit_each ts vs) fit in
    flat_both (((codes " " ++ n) ++ codes "=") ++ value_text v) (values_text (pair_up ns vs))
    (flat_both ((codes " " ++ n) ++ codes "=") (value_text v)
    (flat_both (codes " " ++ n) (codes "=") (flat_both (codes " ") n refl (word_flat n (name_word n (are n (Contains-here n ns))))) refl)
    (word_flat (value_text v) (value_word v (fits_small t v parts.0))))
    (values_flat ns ts vs (names_rest n ns are) (omega (arith, long)) parts.1)

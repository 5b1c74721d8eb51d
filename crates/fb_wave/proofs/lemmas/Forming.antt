-- The form of a trace by the second word of its first line.
use Rattle.fb_wave.proofs.lemmas.Common.{◌≡◌, ℕ, ◌<◌, ◌≤◌, Bool, true, false, List, [], ◌∷◌, ◌++◌, length, get_or, codes, decimal, refl, sym, ap, ◌∙◌, arith, append_assoc, if◌then◌else◌, and_from, and_parts, leb-true, Form, One, Two, Line, System, IsTextOf, HasNames, is_digit, holder_name, port_text, number_text, is_word}
use Rattle.fb_types.proofs.Common.{nat_le, false_from_ne_true, le-leb}
use Rattle.fb_wave.proofs.lemmas.Lining.{after_holder, after_key, holder_named, key_three, line_end, line_parts, port_of_line, port_spread}
use Rattle.fb_wave.proofs.lemmas.Numerals.{digits_of, number_cut}
use Rattle.fb_wave.proofs.lemmas.Plain.{name_first}

-- what a function is promised to answer for a line by its second word
abbrev pub ShowsForm : Form → List ℕ → Type 0
ShowsForm f text =
    (word rest : List ℕ) (b : ℕ) → is_word word ≡ true → text ≡ word ++ 32 ∷ (b ∷ rest) → f ≡ (if is_digit b then Two else One)

letter_no_digit : (b : ℕ) → 65 ≤ b → is_digit b ≡ false
letter_no_digit b low = false_from_ne_true (is_digit b) (λ h. let high = leb-true b 57 (and_parts (nat_le 48 b) (nat_le b 57) h).1 in omega (arith, low, high))

digit_is : (b : ℕ) → 48 ≤ b → b < 58 → is_digit b ≡ true
digit_is b low high = and_from (nat_le 48 b) (nat_le b 57) (le-leb 48 b low) (le-leb b 57 (omega (arith, high)))

-- a text that is not empty begins with its first byte
pub record IsBegun (text : List ℕ) : Type 0 where
  pub first : ℕ
  pub rest : List ℕ
  pub is : text ≡ first ∷ rest

begun : (text : List ℕ) → 0 < length text → IsBegun text
begun [] some = absurd (omega (arith, some))
begun (b ∷ bs) some = record { first = b; rest = bs; is = refl }

-- the form that is shown is that of the line
pub form_shown : (sys : System) (f g : Form) (l : Line) (text : List ℕ) → HasNames sys → ShowsForm f text → IsTextOf sys g l text → g ≡ f
form_shown sys f One l text names sets is =
    let tick = is.line.range.tick in
    let h = holder_name sys l.instance in
    let b : ℕ = get_or (h ++ after_holder sys l) 0 0 in
    let low = name_first h (after_holder sys l) (holder_named sys l names is.line) in
    let more = begun (h ++ after_holder sys l) (some_of h (after_holder sys l) low) in
    let first : more.first ≡ b = ap (λ (t : List ℕ). get_or t 0 0) (sym more.is) in
    let parts : text ≡ decimal l.key.tick ++ 32 ∷ (more.first ∷ more.rest) =
    is.is ∙ line_parts sys One l is.line.held ∙ number_cut l.key.tick (port_text sys (port_of_line l) ++ line_end sys l)
    ∙ ap (λ (t : List ℕ). decimal l.key.tick ++ 32 ∷ t) (port_spread sys l ∙ more.is)
    in
    sym (sets (decimal l.key.tick) more.rest more.first (digits_of l.key.tick (omega (arith, tick))).word parts
    ∙ ap (λ (t : Bool). if t then Two else One) (letter_no_digit more.first (omega (arith, first, low))))
  where
    some_of : (n rest : List ℕ) → 65 ≤ get_or (n ++ rest) 0 0 → 0 < length (n ++ rest)
    some_of n rest low = by (n ++ rest) low
      where
        by : (t : List ℕ) → 65 ≤ get_or t 0 0 → 0 < length t
        by [] low = absurd (omega (arith, low))
        by (c ∷ t) low = omega arith
form_shown sys f Two l text names sets is =
    let class = is.line.range.class in
    let are = digits_of l.key.a is.line.range.a in
    let more = begun (decimal l.key.a) are.some in
    let one = are.each 0 0 are.some in
    let first : more.first ≡ get_or (decimal l.key.a) 0 0 = ap (λ (t : List ℕ). get_or t 0 0) (sym more.is) in
    let after_front = codes " " ++ (number_text l.key.b ++ after_key sys l) in
    let parts : text ≡ decimal l.key.class ++ 32 ∷ (more.first ∷ (more.rest ++ after_front)) =
    is.is ∙ line_parts sys Two l is.line.held ∙ key_three l.key (after_key sys l) ∙ number_cut l.key.class (number_text l.key.a ++ (number_text l.key.b ++ after_key sys l))
    ∙ ap (λ (t : List ℕ). decimal l.key.class ++ 32 ∷ t) (append_assoc (decimal l.key.a) (codes " ") (number_text l.key.b ++ after_key sys l) ∙ ap (λ (t : List ℕ). t ++ after_front) more.is)
    in
    let low = one.low in
    let high = one.high in
    sym (sets (decimal l.key.class) (more.rest ++ after_front) more.first (digits_of l.key.class (omega (arith, class))).word parts
    ∙ ap (λ (t : Bool). if t then Two else One) (digit_is more.first (omega (arith, first, low)) (omega (arith, first, high))))

-- The digits of a number, written from the last to the first.
use Rattle.fb_types.proofs.Common.{◌≡◌, ℕ, ◌+◌, ◌-◌, ◌/◌, ◌%◌, ◌<◌, ◌≤◌, Bool, true, false, List, [], ◌∷◌, length, drop, set, sym, ap, ◌∙◌, arith, length-set, cond, zero, suc, refl, digits, drop_all, eqb}
use Rattle.std.specs.Fmt.{digits_onto, digit_glyph}
use Rattle.std.proofs.lemmas.List.{drop-set}
use borrow.Author.Tests.{eq-eqb, ne_eqb, lt-ltb}
use native.Mathlib.Nat.{mod-lt}

-- The digits from an index on, after those of the rest, are the digits of the number.
pub record Spells (base number rest start : ℕ) (indexes : List ℕ) : Type 0 where
  pub within : start ≤ 64
  pub sized : length indexes ≡ 64
  pub text : digits_onto start base false rest (drop start indexes) ≡ digits base false number

digits_onto-nil : (base n : ℕ) → digits_onto 64 base false n [] ≡ digits base false n
unfolding digits
digits_onto-nil base n = refl

spelled_suc : (base n k : ℕ) (acc : List ℕ) (t : Bool) → eqb (n / base) 0 ≡ t → digits_onto (suc k) base false n acc ≡ cond t (digit_glyph false (n % base) ∷ acc) (digits_onto k base false (n / base) (digit_glyph false (n % base) ∷ acc))
spelled_suc base n k acc t e =
    ap (λ (b : Bool). cond b (digit_glyph false (n % base) ∷ acc) (digits_onto k base false (n / base) (digit_glyph false (n % base) ∷ acc))) e

digits_onto_last : (base n i : ℕ) (acc : List ℕ) → 0 < i → n / base ≡ 0 → digits_onto i base false n acc ≡ digit_glyph false (n % base) ∷ acc
digits_onto_last base n zero acc h e = absurd (omega arith)
digits_onto_last base n (suc k) acc h e = spelled_suc base n k acc true (eq-eqb _ 0 e)

digits_onto_step : (base n i : ℕ) (acc : List ℕ) → 0 < i → (n / base ≡ 0 → ⊥) → digits_onto i base false n acc ≡ digits_onto (i - 1) base false (n / base) (digit_glyph false (n % base) ∷ acc)
digits_onto_step base n zero acc h e = absurd (omega arith)
digits_onto_step base n (suc k) acc h e =
    spelled_suc base n k acc false (ne_eqb _ 0 e)
    ∙ ap (λ (j : ℕ). digits_onto j base false (n / base) (digit_glyph false (n % base) ∷ acc)) {x = k} {y = suc k - 1} (omega arith)

glyph : (d : ℕ) → d < 10 → 48 + d ≡ digit_glyph false d
glyph d h = sym (ap (λ (b : Bool). cond b (48 + d) (87 + d)) (lt-ltb d 10 h))

pub Spells-none : (base n : ℕ) (ds : List ℕ) → length ds ≡ 64 → Spells base n n 64 ds
Spells-none base n ds e =
    record {
      within = omega arith;
      sized = e;
      text = ap (digits_onto 64 base false n) (drop_all 64 ds (omega arith)) ∙ digits_onto-nil base n;
    }

written : (s d : ℕ) (ds : List ℕ) → 0 < s → s ≤ length ds → d < 10 → drop (s - 1) (set ds (s - 1) (48 + d)) ≡ digit_glyph false d ∷ drop s ds
written s d ds h k small =
    let e : s - 1 + 1 ≡ s = omega arith in
    rw (drop-set ds (s - 1) (48 + d) (omega arith), e) (ap (λ (g : ℕ). g ∷ drop s ds) (glyph d small))

digit : (base r : ℕ) → 2 ≤ base → base ≤ 10 → r % base < 10
digit base r low high =
    let some : 0 < base = omega arith in
    let less = mod-lt r some in
    omega (arith, less, high)

pub Spells-more : (base n r s : ℕ) (ds : List ℕ) → 2 ≤ base → base ≤ 10 → Spells base n r s ds → 0 < s → (r / base ≡ 0 → ⊥) → Spells base n (r / base) (s - 1) (set ds (s - 1) (48 + r % base))
Spells-more base n r s ds low high w h more =
    let within = w.within in
    let sized = w.sized in
    record {
      within = omega arith;
      sized = length-set ds (s - 1) _ ∙ w.sized;
      text =
          ap (digits_onto (s - 1) base false (r / base)) (written s (r % base) ds h (omega arith) (digit base r low high))
          ∙ sym (digits_onto_step base r s (drop s ds) h more) ∙ w.text;
    }

pub Spells-all : (base n r s : ℕ) (ds : List ℕ) → 2 ≤ base → base ≤ 10 → Spells base n r s ds → 0 < s → r / base ≡ 0 → drop (s - 1) (set ds (s - 1) (48 + r % base)) ≡ digits base false n
Spells-all base n r s ds low high w h none =
    let within = w.within in
    let sized = w.sized in
    written s (r % base) ds h (omega arith) (digit base r low high) ∙ sym (digits_onto_last base r s (drop s ds) h none) ∙ w.text

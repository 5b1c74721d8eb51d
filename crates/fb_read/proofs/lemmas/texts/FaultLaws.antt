-- Which fault there is if there is no token.
use Rattle.fb_read.proofs.lemmas.Common.{◌≡◌, ℕ, ◌+◌, ◌≤◌, Bool, true, false, cond, eqb, leb, ◌∷◌, Option, Some, None, Err, refl, sym, ap, ◌∙◌, inl, inr, arith, ◌&&◌, is_ascii_digit, cases_Bool, and_parts, le-leb, leb-true, eqb-true, true≢false, false_from_ne_true, Mark, Text, at, is_letter, in_upper, keyword, word_len, word_of, bad_byte, bad_token, Found, time, sign_of, front}
use Rattle.fb_types.proofs.Common.{and_from, or_right, or_cases, or_from}
use Rattle.std.specs.Int.{is_in_range}
use Rattle.std.specs.Char.{is_ascii_alphabetic}
use Rattle.fb_read.specs.declared.token.Token.TheVariants as token
use Rattle.fb_read.specs.Front.{found, named, timed, is_time_word, word, whole, base_of, in_base, literal, marked, is_plain}
use Rattle.fb_read.specs.Longest.{FaultsExactly}
use Rattle.fb_read.proofs.lemmas.rules.Steps.{chosen}
use Rattle.fb_read.proofs.lemmas.tokens.LongestLaws.{front-letter, front-digit, front-sign}

-- ---- a byte of a word or of a sign may occur anywhere

plain-range : (b : ℕ) → 32 ≤ b → b ≤ 126 → is_plain b ≡ true
plain-range b lo hi = or_right (eqb b 9) _ (or_right (eqb b 10) _ (or_right (eqb b 13) _ (and_from (leb 32 b) (leb b 126) (le-leb 32 b lo) (le-leb b 126 hi))))

range-plain : (lo hi b : ℕ) → 32 ≤ lo → hi ≤ 126 → is_in_range lo hi b ≡ true → is_plain b ≡ true
range-plain lo hi b l h r = let p = and_parts (leb lo b) (leb b hi) r in plain-range b (omega (arith, leb-true lo b p.0)) (omega (arith, leb-true b hi p.1))

letter-plain : (b : ℕ) → is_letter b ≡ true → is_plain b ≡ true
letter-plain b h = elim (or_cases (is_ascii_alphabetic b) (eqb b 95) h) [
  | inl l ↦ elim (or_cases (is_in_range 65 90 b) (is_in_range 97 122 b) l) [
    | inl u ↦ range-plain 65 90 b (omega arith) (omega arith) u
    | inr u ↦ range-plain 97 122 b (omega arith) (omega arith) u
  ]
  | inr l ↦ let e : b ≡ 95 = eqb-true b 95 l in rw e refl
]

digit-plain : (b : ℕ) → is_ascii_digit b ≡ true → is_plain b ≡ true
digit-plain b h = range-plain 48 57 b (omega arith) (omega arith) h

no-sign : (b next : ℕ) → is_plain b ≡ false → sign_of b next ≡ None
no-sign b next h =
    let no : (c : ℕ) → is_plain c ≡ true → eqb b c ≡ false = λ c p. false_from_ne_true (eqb b c) (λ t. true≢false (sym p ∙ (ap is_plain (sym (eqb-true b c t)) ∙ h))) in
    rw (no 59 refl, no 58 refl, no 44 refl, no 46 refl, no 40 refl, no 41 refl, no 91 refl, no 93 refl, no 45 refl, no 61 refl, no 60 refl, no 62 refl, no 43 refl, no 42 refl, no 47 refl, no 38 refl) refl

-- ---- words and literals are not bad bytes

no-time : (negative : Bool) (n : ℕ) (o : Option ℕ) → timed negative n o ≡ Err bad_byte → ⊥
no-time negative n None h = cc
no-time negative n (Some ticks) h = cc

no-word : (z : Text) → word z ≡ Err bad_byte → ⊥
unfolding word time
no-word z h =
    let text = in_upper (word_of z) in
    elim (chosen (eqb (at z (word_len z)) 35 && is_time_word text) (time z (word_len z + 1)) (found (named text (keyword text)) (word_len z)) (Err bad_byte) h) [
      | inl w ↦ no-time _ _ _ w.1
      | inr w ↦ let e : found (named text (keyword text)) (word_len z) ≡ Err bad_byte = w.1 in cc
    ]

no-whole : (n : ℕ) (o : Option ℕ) → whole n o ≡ Err bad_byte → ⊥
no-whole n None h = cc
no-whole n (Some value) h = cc

no-literal : (z : Text) → literal z ≡ Err bad_byte → ⊥
unfolding literal
no-literal z h = go (cond (eqb (at z (word_len z)) 35) (base_of (word_of z)) None) h
  where
    go : (o : Option ℕ) → in_base z (word_len z) o ≡ Err bad_byte → ⊥
    go None h = no-whole _ _ h
    go (Some base) h = no-whole _ _ h

not-marked : (b : ℕ) (o : Option (Mark × ℕ)) → marked b o ≡ Err bad_byte → is_plain b ≡ false
not-marked b (Some s) h = absurd (let e : found (token.Mark s.0) s.1 ≡ Err bad_byte = h in cc)
not-marked b None h = go (is_plain b) h
  where
    refused : Bool → Found
    refused plain = cond plain (Err bad_token) (Err bad_byte)

    go : (plain : Bool) → refused plain ≡ Err bad_byte → plain ≡ false
    go true e = absurd cc
    go false e = refl

-- ---- the fault

byte-at-fault : (b : ℕ) (z : Text) → front (b ∷ z) ≡ Err bad_byte → is_plain b ≡ false
byte-at-fault b z h = elim (cases_Bool (is_letter b)) [
  | inl l ↦ absurd (no-word (b ∷ z) (sym (front-letter b z l) ∙ h))
  | inr l ↦ elim (cases_Bool (is_ascii_digit b)) [
    | inl d ↦ absurd (no-literal (b ∷ z) (sym (front-digit b z d) ∙ h))
    | inr d ↦ not-marked b (sign_of b (at z 0)) (sym (front-sign b z (or_from (is_letter b) (is_ascii_digit b) l d)) ∙ h)
  ]
]

bad-byte : (b : ℕ) (z : Text) → is_plain b ≡ false → front (b ∷ z) ≡ Err bad_byte
bad-byte b z h =
    let letter : is_letter b ≡ false = false_from_ne_true (is_letter b) (λ l. true≢false (sym (letter-plain b l) ∙ h)) in
    let digit : is_ascii_digit b ≡ false = false_from_ne_true (is_ascii_digit b) (λ d. true≢false (sym (digit-plain b d) ∙ h)) in
    front-sign b z (or_from (is_letter b) (is_ascii_digit b) letter digit) ∙ rw (no-sign b (at z 0) h, h) refl

pub faults-exactly : FaultsExactly
faults-exactly b z = (byte-at-fault b z, bad-byte b z)

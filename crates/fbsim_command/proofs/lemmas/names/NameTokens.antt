-- The names among the tokens of a text, and those of a deployment, are names in upper case.
use Rattle.std.proofs.Common.{◌≡◌, ◌≤◌, ℕ, Bool, true, false, cond, List, [], ◌∷◌, ◌++◌, map, take, drop, Option, Some, None, Ok, Err, refl, sym, ap, subst, ◌∙◌, inl, inr, arith}
use Rattle.std.specs.Prelude.{◌-◌, ◌||◌, ◌&&◌, nat_le, ◌==◌, ◌⊎◌}
use Rattle.std.specs.List.{list_all}
use Rattle.fb_types.proofs.Common.{and_from, and_parts, or_cases, or_left, or_right, le-leb, leb, leb-true, eqb, eqb-true}
use Rattle.fb_read.specs.declared.token.Mark.{Mark}
use Rattle.fb_read.specs.declared.token.Token.{Token}
use Rattle.fb_read.specs.declared.token.Token.TheVariants as token
use Rattle.fb_read.specs.Blank.{Text}
use Rattle.fb_read.specs.Front.{front, named}
use Rattle.fb_read.specs.Longest.{AreWord, IsToken, is_based, is_decimal, is_duration, is_name, is_negative_duration, is_sign}
use Rattle.fb_read.specs.Tokens.{AreTokens, Tokens, no_more, then_token}
use Rattle.fb_read.specs.Words.{in_upper, is_letter, is_word, keyword, upper}
use Rattle.fb_read.proofs.lemmas.tokens.LongestLaws.{takes-longest}
use Rattle.fb_inputs.specs.Words.{is_identifier, is_keyword, name}
use Rattle.fb_wave.specs.Named as spec
use Rattle.fbsim_command.proofs.lemmas.names.GrammarNames.{AreNamed, IsNamed}

-- ---- upper case

-- a letter is in lower case, in upper case, or an underscore
is-letter : (b : ℕ) → is_letter b ≡ true → ((65 ≤ b) × (b ≤ 90)) ⊎ (((97 ≤ b) × (b ≤ 122)) ⊎ (b ≡ 95))
is-letter b h =
    elim (or_cases ((leb 65 b && leb b 90) || (leb 97 b && leb b 122)) (eqb b 95) h) [
      | inl alphabetic ↦ elim (or_cases (leb 65 b && leb b 90) (leb 97 b && leb b 122) alphabetic) [
        | inl high ↦ (let p = and_parts (leb 65 b) (leb b 90) high in inl (leb-true 65 b p.0, leb-true b 90 p.1))
        | inr low ↦ (let p = and_parts (leb 97 b) (leb b 122) low in inr (inl (leb-true 97 b p.0, leb-true b 122 p.1)))
      ]
      | inr e ↦ inr (inr (eqb-true b 95 e))
    ]

abbrev low : ℕ → Bool
low b = leb 97 b && leb b 122

-- a byte that is not in lower case stays as it is
upper-stays : (b : ℕ) → (b ≤ 96) → upper b ≡ b
upper-stays b few = ap (λ t. cond t (b - 32) b) (go (low b) refl)
  where
    go : (t : Bool) → low b ≡ t → t ≡ false
    go false e = refl
    go true e = absurd (let p = and_parts (leb 97 b) (leb b 122) e in let more = leb-true 97 b p.0 in omega (arith, more, few))

upper-lowers : (b : ℕ) → 97 ≤ b → b ≤ 122 → upper b ≡ b - 32
upper-lowers b x y = ap (λ t. cond t (b - 32) b) (and_from (leb 97 b) (leb b 122) (le-leb 97 b x) (le-leb b 122 y))

-- a letter in upper case
is-high : (b : ℕ) → 65 ≤ b → b ≤ 90 → spec.is_letter b ≡ true
is-high b x y = or_left (leb 65 b && leb b 90) (eqb b 95) (and_from (leb 65 b) (leb b 90) (le-leb 65 b x) (le-leb b 90 y))

upper-letter : (b : ℕ) → is_letter b ≡ true → spec.is_letter (upper b) ≡ true
upper-letter b h =
    elim (is-letter b h) [
      | inl high ↦ ap spec.is_letter (upper-stays b (omega (arith, high.1))) ∙ is-high b high.0 high.1
      | inr (inl in_low) ↦ ap spec.is_letter (upper-lowers b in_low.0 in_low.1) ∙ is-high (b - 32) (omega (arith, in_low.0)) (omega (arith, in_low.1))
      | inr (inr e) ↦ ap (λ c. spec.is_letter (upper c)) e
    ]

abbrev is_part : ℕ → Bool
is_part c = spec.is_letter c || spec.is_digit c

upper-part : (b : ℕ) → is_word b ≡ true → is_part (upper b) ≡ true
upper-part b h =
    elim (or_cases (is_letter b) (leb 48 b && leb b 57) h) [
      | inl letter ↦ or_left (spec.is_letter (upper b)) (spec.is_digit (upper b)) (upper-letter b letter)
      | inr digit ↦
          let p = and_parts (leb 48 b) (leb b 57) digit in
          let most = leb-true b 57 p.1 in
          or_right (spec.is_letter (upper b)) (spec.is_digit (upper b)) (ap spec.is_digit (upper-stays b (omega (arith, most))) ∙ digit)
    ]

upper-parts : (z : Text) → AreWord z → list_all is_part (in_upper z) ≡ true
upper-parts [] w = refl
upper-parts (b ∷ z) (first, rest) = and_from (is_part (upper b)) (list_all is_part (in_upper z)) (upper-part b first) (upper-parts z rest)

upper-name : (b : ℕ) (z : Text) → is_letter b ≡ true → AreWord z → spec.is_name (in_upper (b ∷ z)) ≡ true
upper-name b z letter w = and_from (spec.is_letter (upper b)) (list_all is_part (in_upper z)) (upper-letter b letter) (upper-parts z w)

-- ---- the names of a deployment

words-all : (z : Text) → list_all is_word z ≡ true → AreWord z
words-all [] h = tt
words-all (b ∷ z) h = let p = and_parts (is_word b) (list_all is_word z) h in (p.0, words-all z p.1)

pub identifier-name : (z : Text) → is_identifier z ≡ true → spec.is_name (in_upper z) ≡ true
identifier-name [] h = absurd cc
identifier-name (b ∷ z) h = let p = and_parts (is_letter b) (list_all is_word z) h in upper-name b z p.0 (words-all z p.1)

-- ---- the tokens of a text

token-named : (t : Token) (z : Text) → IsToken t z → IsNamed t
token-named t z (is_name {b = b} {z = y} letter w) = go (keyword (in_upper (b ∷ y)))
  where
    go : (k : Option Mark) → IsNamed (named (in_upper (b ∷ y)) k)
    go None = upper-name b y letter w
    go (Some k) = tt
token-named t z (is_decimal e) = tt
token-named t z (is_based w y base e) = tt
token-named t z (is_duration w y word e) = tt
token-named t z (is_negative_duration w y word e) = tt
token-named t z (is_sign w e) = tt

pub tokens-named : (ts : Tokens) (z : Text) → AreTokens ts z → AreNamed ts
tokens-named [] z (no_more e) = tt
tokens-named (t ∷ ts) z (then_token {n = n} {here = here} {rest = rest} skipped found dropped more) =
    (token-named t (take n here) (takes-longest here t n found).is_token, tokens-named ts rest more)

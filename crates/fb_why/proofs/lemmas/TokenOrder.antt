-- The tokens of a text are in its order, so one of them at most begins at an offset.
use Rattle.fb_types.proofs.Common.{◌≡◌, ◌∙◌, ◌∷◌, ◌++◌, ◌+◌, ◌<◌, ◌≤◌, [], ℕ, zero, suc, ◌⊎◌, true, false, List, Option, Some, None, Ok, IfSome, length, get_or, drop, inl, inr, sym, ap, subst, arith, cases_lt, false≢true, le-ltb, lt-ltb, length-append, length-drop, nat_lt, slice_get, slice_get-get_or, slice_get_within}
use Rattle.std.proofs.lemmas.Option.{get_or_from_slice_get}
use Rattle.std.specs.List.Sorted.{IsNonDecreasingBy, IsPartitionPoint}
use Rattle.fb_read.specs.Blank.{Text, skip, start}
use Rattle.fb_read.specs.Front.{bad_byte, front}
use Rattle.fb_read.specs.Located.{AreLocated, no_more, then_token}
use Rattle.fb_read.specs.Longest.{IsToken, is_name, is_decimal, is_based, is_duration, is_negative_duration, is_sign}
use Rattle.fb_read.specs.Numbers.{number}
use Rattle.fb_read.specs.declared.token.Located.{Located}
use Rattle.fb_read.specs.declared.token.Token.{Token}
use Rattle.fb_read.proofs.lemmas.tokens.LongestLaws.{takes-longest}
use Rattle.fb_read.proofs.lemmas.tokens.TextEnds.{end-length, skip-end}
use Rattle.fb_read.proofs.lemmas.tokens.TokenLaws.{front_empty}
use Rattle.fb_read_positions.proofs.lemmas.OneReading.{not_both, offset-is}
use Rattle.fb_why.specs.Marks.{IsNoToken, IsTokenAt}

-- ---- A token has a byte

no_number : (n : ℕ) → number 10 [] ≡ Some n → ⊥
unfolding number
no_number n e = cc

some_digit : (z : Text) (n : ℕ) → number 10 z ≡ Some n → 0 < length z
some_digit [] n e = absurd (no_number n e)
some_digit (b ∷ z) n e = omega arith

some_byte : (t : Token) (z : Text) → IsToken t z → 0 < length z
some_byte t z (is_name l w) = omega arith
some_byte t z (is_decimal {n = n} e) = some_digit z n e
some_byte t z (is_based w y b e) = omega (arith, length-append w (35 ∷ y))
some_byte t z (is_duration w y b e) = omega (arith, length-append w (35 ∷ y))
some_byte t z (is_negative_duration w y b e) = omega (arith, length-append w (35 ∷ (45 ∷ y)))
some_byte t z (is_sign f e) = omega arith

some_long : (z : Text) (t : Token) (n : ℕ) → front z ≡ Ok (t, n) → 0 < n
some_long z t zero h = some_byte t [] (takes-longest z t zero h).is_token
some_long z t (suc n) h = omega arith

some_left : (z : Text) (t : Token) (n : ℕ) → front z ≡ Ok (t, n) → 0 < length z
some_left [] t n h = absurd (not_both (front []) bad_byte (t, n) front_empty h)
some_left (b ∷ z) t n h = omega arith

-- what is left after a token is shorter
shorter : (here rest : Text) (t : Token) (n : ℕ) → front here ≡ Ok (t, n) → drop n here ≡ rest → length rest < length here
shorter here rest t n h d = omega (arith, some_long here t n h, some_left here t n h, length-drop n here, ap (λ (y : Text). length y) d)

-- ---- In the order of the text

-- each of these tokens begins in this end of the text
begins_in : (text : Text) (ps : List Located) (z : Text) → AreLocated text ps z → (j : ℕ) (d : Located) → j < length ps → length text ≤ (get_or ps j d).index + length z
begins_in text [] z a j d within = absurd (omega arith)
begins_in text (p ∷ ps) z (then_token {n = n} {here = here} h e c l a) zero d within =
    omega (arith, offset-is text here p.index (p.token, n) l e, end-length here z (skip-end start z here h))
begins_in text (p ∷ ps) z (then_token {n = n} {here = here} {rest = rest} h e c l a) (suc j) d within =
    omega (arith, begins_in text ps rest a j d (omega arith), shorter here rest p.token n e c, end-length here z (skip-end start z here h))

pub rises : (text : Text) (ps : List Located) (z : Text) → AreLocated text ps z → (i j : ℕ) (d : Located) → i < j → j < length ps → (get_or ps i d).index < (get_or ps j d).index
rises text [] z a i j d before within = absurd (omega arith)
rises text (p ∷ ps) z a i zero d before within = absurd (omega arith)
rises text (p ∷ ps) z (then_token {n = n} {here = here} {rest = rest} h e c l a) zero (suc j) d before within =
    omega (arith, begins_in text ps rest a j d (omega arith), shorter here rest p.token n e c, offset-is text here p.index (p.token, n) l e)
rises text (p ∷ ps) z (then_token {rest = rest} h e c l a) (suc i) (suc j) d before within = rises text ps rest a i j d (omega arith) (omega arith)

pub in_order : (text : Text) (ps : List Located) (z : Text) → AreLocated text ps z → IsNonDecreasingBy (λ p. p.index) ps
in_order text ps z a i j d before within = go (cases_lt i j)
  where
    go : (i < j) ⊎ (j ≤ i) → (get_or ps i d).index ≤ (get_or ps j d).index
    go (inl b) = omega (arith, rises text ps z a i j d b within)
    go (inr b) = let same : i ≡ j = omega arith in subst (λ (k : ℕ). (get_or ps i d).index ≤ (get_or ps k d).index) same (omega arith)

-- ---- One token at an offset

-- a token that is given, by its index
read_at : (ps : List Located) (i : ℕ) (p d : Located) → slice_get ps i ≡ Some p → (i < length ps) × (get_or ps i d ≡ p)
read_at ps i p d h = (slice_get_within ps i p h, get_or_from_slice_get ps i p d h)

later : (text : Text) (ps : List Located) (z : Text) (offset i j : ℕ) → AreLocated text ps z → IsTokenAt ps offset i → IsTokenAt ps offset j → i < j → ⊥
later text ps z offset i j a h k before =
    let p = h.0 in
    let at = read_at ps i h.0 p h.1 in
    let on = read_at ps j k.0 p k.1 in
    let rise = rises text ps z a i j p before on.0 in
    let first : (get_or ps i p).index ≡ offset = ap (λ (x : Located). x.index) at.1 ∙ h.2 in
    let second : (get_or ps j p).index ≡ offset = ap (λ (x : Located). x.index) on.1 ∙ k.2 in
    omega (arith, rise, first, second)

pub one_begin : (text : Text) (ps : List Located) (z : Text) (offset i j : ℕ) → AreLocated text ps z → IsTokenAt ps offset i → IsTokenAt ps offset j → i ≡ j
one_begin text ps z offset i j a h k =
    let not_after : i < j → ⊥ = later text ps z offset i j a h k in
    let not_before : j < i → ⊥ = later text ps z offset j i a k h in
    omega (arith, not_after, not_before)

-- ---- A search by halves

-- the token that is not before the offset is not at it, or there is none
pub none_at :
    (ps : List Located) (offset i : ℕ) → IsNonDecreasingBy (λ p. p.index) ps → IsPartitionPoint (λ p. nat_lt p.index offset ≡ true) (λ p. nat_lt p.index offset ≡ false) ps i
    → (u : Option Located) → slice_get ps i ≡ u → IfSome u (λ p. p.index ≡ offset → ⊥) → IsNoToken ps offset
none_at ps offset i up point u is other j w =
    let on = read_at ps j w.0 w.0 w.1 in
    let there : (get_or ps j w.0).index ≡ offset = ap (λ (p : Located). p.index) on.1 ∙ w.2 in
    elim (cases_lt j i) [
      | inl before ↦ false≢true (sym (le-ltb (get_or ps j w.0).index offset (omega (arith, there))) ∙ point.0 j w.0 (omega arith) before)
      | inr after ↦
          let within : i < length ps = omega (arith, on.0) in
          let here : slice_get ps i ≡ Some (get_or ps i w.0) = slice_get-get_or ps i w.0 within in
          let low : (get_or ps i w.0).index ≤ (get_or ps j w.0).index = up i j w.0 after on.0 in
          let high = point.1 i w.0 (omega arith) within in
          elim (cases_lt (get_or ps i w.0).index offset) [
            | inl below ↦ false≢true (sym high ∙ lt-ltb (get_or ps i w.0).index offset below)
            | inr least ↦
                let same : (get_or ps i w.0).index ≡ offset = omega (arith, low, there, least) in
                let it : IfSome (Some (get_or ps i w.0)) (λ p. p.index ≡ offset → ⊥) = subst (λ (o : Option Located). IfSome o (λ p. p.index ≡ offset → ⊥)) (sym is ∙ here) other in
                it same
          ]
    ]

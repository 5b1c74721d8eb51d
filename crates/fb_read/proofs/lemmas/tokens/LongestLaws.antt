-- The token that is found at the front of a text is the longest one.
use Rattle.fb_read.proofs.lemmas.Common.{◌≡◌, ℕ, zero, suc, ◌+◌, ◌<◌, ◌≤◌, Bool, true, false, cond, eqb, [], ◌∷◌, ◌++◌, length, take, drop, get_or, Option, Some, None, Ok, Err, refl, sym, ap, subst, ◌∙◌, inl, inr, append_assoc, arith, ◌&&◌, codes, is_ascii_digit, bytes_eq, cases_Bool, cases_lt, and_parts, eqb-true, true≢false, false_from_ne_true, length-append, Mark, Token, Text, at, is_letter, is_word, in_upper, keyword, word_len, word_of, number, bad_byte, bad_token, Found, time, sign_of, front}
use Rattle.fb_types.proofs.Common.{or_from, or_cases, or_parts, or_left, take_at, get_or_past, drop_more, get_or-drop}
use Rattle.std.proofs.lemmas.List.{get_or_at, get_or-append-add, drop-drop}
use Rattle.fb_read.specs.declared.token.Token.TheVariants as token
use Rattle.fb_read.specs.Durations.{parts, duration}
use Rattle.fb_read.specs.Front.{found, named, signed, timed, parts_start, is_time_word, word, whole, base_of, in_base, literal, sign, marked, is_plain}
use Rattle.fb_read.specs.Longest.{AreWord, IsToken, is_name, is_decimal, is_based, is_duration, is_negative_duration, is_sign, IsLiteral, TakesLongest}
use Rattle.fb_read.proofs.lemmas.rules.Steps.{chosen}
use Rattle.fb_read.proofs.lemmas.tokens.ByteLaws.{digit-not-letter, number-word, decimal-first, duration-word, upper-letter, in_upper-word, longest, all_word, word_of-cons, word-ends, word-stops, bytes_same}

abbrev found_pair : Token × ℕ → Found
found_pair p = Ok p

same_found : (t u : Token) (m n : ℕ) → found t m ≡ found u n → (t ≡ u) × (m ≡ n)
same_found t u m n h = let p : (t, m) ≡ (u, n) = pair (t, m) (u, n) h in (ap (λ (q : Token × ℕ). q.0) p, ap (λ (q : Token × ℕ). q.1) p)
  where
    pair : (p q : Token × ℕ) → found_pair p ≡ found_pair q → p ≡ q
    pair p q e = cc

-- ---- what each kind of token that was found says

pub record Timed (negative : Bool) (m : ℕ) (o : Option ℕ) (t : Token) (n : ℕ) : Type 0 where
  pub ticks : ℕ
  pub ticks_are : o ≡ Some ticks
  pub token_is : token.Time (signed negative ticks) ≡ t
  pub length_is : m ≡ n

timed-found : (negative : Bool) (m : ℕ) (o : Option ℕ) (t : Token) (n : ℕ) → timed negative m o ≡ Ok (t, n) → Timed negative m o t n
timed-found negative m None t n h = absurd cc
timed-found negative m (Some ticks) t n h =
    let p = same_found (token.Time (signed negative ticks)) t m n h in record { ticks = ticks; ticks_are = refl; token_is = p.0; length_is = p.1 }

pub time-found : (z : Text) (start : ℕ) (t : Token) (n : ℕ) → time z start ≡ Ok (t, n)
    → Timed (eqb (at z start) 45) (parts_start z start + word_len (drop (parts_start z start) z)) (duration (in_upper (word_of (drop (parts_start z start) z)))) t n
unfolding time
time-found z start t n h = timed-found _ _ _ t n h

pub parts_start-least : (z : Text) (start : ℕ) → start ≤ parts_start z start
parts_start-least z start = go (eqb (at z start) 45)
  where
    go : (b : Bool) → start ≤ cond b (start + 1) start
    go true = omega arith
    go false = omega arith

-- a word that was found is a time literal, or a keyword or a name
data WordFound (z : Text) (t : Token) (n : ℕ) : Type 0 where
  as_time : at z (word_len z) ≡ 35 → is_time_word (in_upper (word_of z)) ≡ true → time z (word_len z + 1) ≡ Ok (t, n) → WordFound z t n
  as_name : named (in_upper (word_of z)) (keyword (in_upper (word_of z))) ≡ t → word_len z ≡ n → WordFound z t n

word-found : (z : Text) (t : Token) (n : ℕ) → word z ≡ Ok (t, n) → WordFound z t n
unfolding word
word-found z t n h =
    let text = in_upper (word_of z) in
    elim (chosen (eqb (at z (word_len z)) 35 && is_time_word text) (time z (word_len z + 1)) (found (named text (keyword text)) (word_len z)) (Ok (t, n)) h) [
      | inl w ↦ let p = and_parts (eqb (at z (word_len z)) 35) (is_time_word text) w.0 in as_time (eqb-true (at z (word_len z)) 35 p.0) p.1 w.1
      | inr w ↦ let p = same_found (named text (keyword text)) t (word_len z) n w.1 in as_name p.0 p.1
    ]

word-least : (z : Text) (t : Token) (n : ℕ) → word z ≡ Ok (t, n) → word_len z ≤ n
word-least z t n h = go (word-found z t n h)
  where
    go : WordFound z t n → word_len z ≤ n
    go (as_time c w e) = let f = time-found z (word_len z + 1) t n e in omega (arith, f.length_is, parts_start-least z (word_len z + 1))
    go (as_name w e) = omega arith

pub record Whole (m : ℕ) (o : Option ℕ) (t : Token) (n : ℕ) : Type 0 where
  pub value : ℕ
  pub value_is : o ≡ Some value
  pub token_is : token.Whole value ≡ t
  pub length_is : m ≡ n

pub whole-found : (m : ℕ) (o : Option ℕ) (t : Token) (n : ℕ) → whole m o ≡ Ok (t, n) → Whole m o t n
whole-found m None t n h = absurd cc
whole-found m (Some value) t n h = let p = same_found (token.Whole value) t m n h in record { value = value; value_is = refl; token_is = p.0; length_is = p.1 }

-- a literal that was found has a base, or is decimal
data LiteralFound (z : Text) (t : Token) (n : ℕ) : Type 0 where
  with_base : (base : ℕ) → at z (word_len z) ≡ 35 → base_of (word_of z) ≡ Some base
      → Whole (word_len z + 1 + word_len (drop (word_len z + 1) z)) (number base (word_of (drop (word_len z + 1) z))) t n → LiteralFound z t n
  in_decimal : Whole (word_len z) (number 10 (word_of z)) t n → LiteralFound z t n

literal-found : (z : Text) (t : Token) (n : ℕ) → literal z ≡ Ok (t, n) → LiteralFound z t n
unfolding literal
literal-found z t n h = go (eqb (at z (word_len z)) 35) refl h
  where
    based : (o : Option ℕ) → base_of (word_of z) ≡ o → at z (word_len z) ≡ 35 → in_base z (word_len z) o ≡ Ok (t, n) → LiteralFound z t n
    based None e c h = in_decimal (whole-found _ _ t n h)
    based (Some base) e c h = with_base base c e (whole-found _ _ t n h)

    go : (b : Bool) → eqb (at z (word_len z)) 35 ≡ b → in_base z (word_len z) (cond b (base_of (word_of z)) None) ≡ Ok (t, n) → LiteralFound z t n
    go true e h = based (base_of (word_of z)) refl (eqb-true (at z (word_len z)) 35 e) h
    go false e h = in_decimal (whole-found _ _ t n h)

literal-least : (z : Text) (t : Token) (n : ℕ) → literal z ≡ Ok (t, n) → word_len z ≤ n
literal-least z t n h = go (literal-found z t n h)
  where
    go : LiteralFound z t n → word_len z ≤ n
    go (with_base base c e w) = omega (arith, w.length_is)
    go (in_decimal w) = omega (arith, w.length_is)

-- ---- signs

-- how a sign depends on the byte after it
pub data Signs : Option (Mark × ℕ) → Option (Mark × ℕ) → Type 0 where
  none : Signs None None
  alone : {k : Mark} → Signs (sign k 1) (sign k 1)
  double : {j k : Mark} → Signs (sign j 2) (sign k 1)

either : (b : Bool) {u v x y : Option (Mark × ℕ)} → Signs u v → Signs x y → Signs (cond b u x) (cond b v y)
either true s r = s
either false s r = r

longer : (b : Bool) {u x v : Option (Mark × ℕ)} → Signs u v → Signs x v → Signs (cond b u x) v
longer true s r = s
longer false s r = r

pub signs : (b next : ℕ) → Signs (sign_of b next) (sign_of b 0)
signs b next =
    either (eqb b 59) alone (either (eqb b 58) (longer (eqb next 61) double alone)
    (either (eqb b 44) alone (either (eqb b 46) (longer (eqb next 46) double alone)
    (either (eqb b 40) alone (either (eqb b 41) alone (either (eqb b 91) alone
    (either (eqb b 93) alone (either (eqb b 45) (longer (eqb next 62) double alone)
    (either (eqb b 61) alone
    (either (eqb b 60) (longer (eqb next 62) double (longer (eqb next 61) double alone))
    (either (eqb b 62) (longer (eqb next 61) double alone)
    (either (eqb b 43) alone (either (eqb b 42) alone (either (eqb b 47) alone
    (either (eqb b 38) alone none)))))))))))))))

abbrev sign_pair : Mark × ℕ → Option (Mark × ℕ)
sign_pair p = Some p

same_length : (j k : Mark) (m n : ℕ) → sign j m ≡ sign k n → m ≡ n
same_length j k m n h = ap (λ (q : Mark × ℕ). q.1) (pair (j, m) (k, n) h)
  where
    pair : (p q : Mark × ℕ) → sign_pair p ≡ sign_pair q → p ≡ q
    pair p q e = cc

sign-least : (b next : ℕ) (k : Mark) (n : ℕ) → sign_of b next ≡ Some (k, n) → 1 ≤ n
sign-least b next k n h = go (signs b next) h
  where
    least : (j : Mark) (m : ℕ) → 1 ≤ m → sign j m ≡ sign k n → 1 ≤ n
    least j m some e = omega (arith, same_length j k m n e)

    go : {u v : Option (Mark × ℕ)} → Signs u v → u ≡ Some (k, n) → 1 ≤ n
    go none e = absurd cc
    go (alone {k = j}) e = least j 1 (omega arith) e
    go (double {j = j}) e = least j 2 (omega arith) e

-- a sign of one byte is one before every byte
sign-alone : (b next : ℕ) (k : Mark) → sign_of b next ≡ Some (k, 1) → sign_of b 0 ≡ Some (k, 1)
sign-alone b next k h = go (signs b next) h
  where
    apart : (j : Mark) → sign j 2 ≡ sign k 1 → ⊥
    apart j e = omega (arith, same_length j k 2 1 e)

    go : {u v : Option (Mark × ℕ)} → Signs u v → u ≡ Some (k, 1) → v ≡ Some (k, 1)
    go none e = e
    go alone e = e
    go (double {j = j}) e = absurd (apart j e)

-- no sign of two bytes ends a text with its first one
sign-double : (b : ℕ) (k : Mark) (n : ℕ) → sign_of b 0 ≡ Some (k, suc (suc n)) → ⊥
sign-double b k n h = go (signs b 0) h
  where
    apart : (j : Mark) → sign j 1 ≡ sign k (suc (suc n)) → ⊥
    apart j e = omega (arith, same_length j k 1 (suc (suc n)) e)

    go : {u v : Option (Mark × ℕ)} → Signs u v → v ≡ Some (k, suc (suc n)) → ⊥
    go none e = cc
    go (alone {k = j}) e = apart j e
    go (double {k = j}) e = apart j e

sign-most : (b next : ℕ) (k : Mark) (n : ℕ) → sign_of b next ≡ Some (k, suc (suc (suc n))) → ⊥
sign-most b next k n h = go (signs b next) h
  where
    apart : (j : Mark) (m : ℕ) → m ≤ 2 → sign j m ≡ sign k (suc (suc (suc n))) → ⊥
    apart j m le e = omega (arith, same_length j k m (suc (suc (suc n))) e)

    go : {u v : Option (Mark × ℕ)} → Signs u v → u ≡ Some (k, suc (suc (suc n))) → ⊥
    go none e = cc
    go (alone {k = j}) e = apart j 1 (omega arith) e
    go (double {j = j}) e = apart j 2 (omega arith) e

record MarkFound (o : Option (Mark × ℕ)) (t : Token) (n : ℕ) : Type 0 where
  mark : Mark
  sign_is : o ≡ Some (mark, n)
  token_is : token.Mark mark ≡ t

mark-found : (b : ℕ) (o : Option (Mark × ℕ)) (t : Token) (n : ℕ) → marked b o ≡ Ok (t, n) → MarkFound o t n
mark-found b None t n h = go (is_plain b) h
  where
    refused : Bool → Found
    refused plain = cond plain (Err bad_token) (Err bad_byte)

    go : (plain : Bool) → refused plain ≡ Ok (t, n) → MarkFound None t n
    go true e = absurd cc
    go false e = absurd cc
mark-found b (Some s) t n h =
    let p = same_found (token.Mark s.0) t s.1 n h in
    record { mark = s.0; sign_is = ap (λ (m : ℕ). Some (s.0, m)) p.1; token_is = p.0 }

-- ---- what the first byte says

front-empty : front [] ≡ Err bad_byte
unfolding front
front-empty = refl

pub front-letter : (b : ℕ) (y : Text) → is_letter b ≡ true → front (b ∷ y) ≡ word (b ∷ y)
unfolding front
front-letter b y l = rw l refl

pub front-digit : (b : ℕ) (y : Text) → is_ascii_digit b ≡ true → front (b ∷ y) ≡ literal (b ∷ y)
unfolding front
front-digit b y d = rw (digit-not-letter b d, d) refl

pub front-sign : (b : ℕ) (y : Text) → is_word b ≡ false → front (b ∷ y) ≡ marked b (sign_of b (at y 0))
unfolding front
front-sign b y f = let p = or_parts (is_letter b) (is_ascii_digit b) f in rw (p.0, p.1) refl

-- ---- no longer front is a token

-- a text that is T or TIME in upper case
pub data IsTimeWord : Text → Type 0 where
  time_word : {b : ℕ} {w : Text} → is_letter b ≡ true → AreWord (b ∷ w) → IsTimeWord (b ∷ w)

pub time-word : (w : Text) → is_time_word (in_upper w) ≡ true → IsTimeWord w
time-word w h = elim (or_cases (bytes_eq (in_upper w) (codes "T")) (bytes_eq (in_upper w) (codes "TIME")) h) [
  | inl e ↦ go w (codes "T") (bytes_same (in_upper w) (codes "T") e) refl (refl, tt)
  | inr e ↦ go w (codes "TIME") (bytes_same (in_upper w) (codes "TIME") e) refl (refl, (refl, (refl, (refl, tt))))
]
  where
    go : (w u : Text) → in_upper w ≡ u → is_letter (at u 0) ≡ true → AreWord u → IsTimeWord w
    go [] u e l a = absurd (true≢false (sym (subst (λ (v : Text). is_letter (at v 0) ≡ true) (sym e) l)))
    go (b ∷ w) u e l a = time_word (upper-letter b (subst (λ (v : Text). is_letter (at v 0) ≡ true) (sym e) l)) (in_upper-word (b ∷ w) (subst AreWord (sym e) a))

pub word-is-time : (w y : Text) → AreWord w → is_time_word (in_upper w) ≡ true → word (w ++ 35 ∷ y) ≡ time (w ++ 35 ∷ y) (length w + 1)
unfolding word
word-is-time w y a i =
    let ends : word_len (w ++ 35 ∷ y) ≡ length w = word-ends w 35 y a refl in
    let taken : take (length w) (w ++ 35 ∷ y) ≡ w = take_at w (35 ∷ y) (length w) refl in
    let here : at (w ++ 35 ∷ y) (length w) ≡ 35 = get_or_at w 35 y 0 (length w) refl in
    rw (ends, taken, here, i) refl

pub at-following : (w y : Text) (c : ℕ) → at (w ++ c ∷ y) (length w + 1) ≡ at y 0
at-following w y c = get_or-append-add w (c ∷ y) 1 0

pub drop-following : (w y : Text) (c : ℕ) → drop (length w + 1) (w ++ c ∷ y) ≡ y
drop-following [] y c = refl
drop-following (b ∷ w) y c = let k : suc (length w) + 1 ≡ suc (length w + 1) = omega arith in rw k (drop-following w y c)

pub drop-two : (w y : Text) (c d : ℕ) → drop (length w + 1 + 1) (w ++ c ∷ (d ∷ y)) ≡ y
drop-two w y c d = sym (drop-drop 1 (length w + 1) (w ++ c ∷ (d ∷ y))) ∙ ap (drop 1) (drop-following w (d ∷ y) c)

pub not_minus : (x : ℕ) → is_word x ≡ true → eqb x 45 ≡ false
not_minus x h = false_from_ne_true (eqb x 45) (λ e. true≢false (sym h ∙ ap is_word (eqb-true x 45 e)))

duration-reaches : (w : Text) (x : ℕ) (z rest : Text) (t : Token) (n : ℕ) → AreWord (x ∷ z) → time (w ++ 35 ∷ (x ∷ z ++ rest)) (length w + 1) ≡ Ok (t, n) → length (w ++ 35 ∷ (x ∷ z)) ≤ n
duration-reaches w x z rest t n a h =
    let text = w ++ 35 ∷ (x ∷ z ++ rest) in
    let f = time-found text (length w + 1) t n h in
    let here : at text (length w + 1) ≡ x = at-following w (x ∷ z ++ rest) 35 in
    let starts : parts_start text (length w + 1) ≡ length w + 1 = rw (here, not_minus x a.0) refl in
    let following : drop (length w + 1) text ≡ x ∷ z ++ rest = drop-following w (x ∷ z ++ rest) 35 in
    let len : length w + 1 + word_len (x ∷ z ++ rest) ≡ n = rw (starts, following) at f.length_is in
    let reach : length (x ∷ z) ≤ word_len (x ∷ z ++ rest) = longest (x ∷ z) rest a in
    rw (length-append w (35 ∷ (x ∷ z))) (omega arith)

negative-reaches : (w z rest : Text) (t : Token) (n : ℕ) → AreWord z → time (w ++ 35 ∷ (45 ∷ (z ++ rest))) (length w + 1) ≡ Ok (t, n) → length (w ++ 35 ∷ (45 ∷ z)) ≤ n
negative-reaches w z rest t n a h =
    let text = w ++ 35 ∷ (45 ∷ (z ++ rest)) in
    let f = time-found text (length w + 1) t n h in
    let here : at text (length w + 1) ≡ 45 = at-following w (45 ∷ (z ++ rest)) 35 in
    let starts : parts_start text (length w + 1) ≡ length w + 1 + 1 = rw here refl in
    let following : drop (length w + 1 + 1) text ≡ z ++ rest = drop-two w (z ++ rest) 35 45 in
    let len : length w + 1 + 1 + word_len (z ++ rest) ≡ n = rw (starts, following) at f.length_is in
    let reach : length z ≤ word_len (z ++ rest) = longest z rest a in
    rw (length-append w (35 ∷ (45 ∷ z))) (omega arith)

-- the three bases
pub data IsBase : Text → ℕ → Type 0 where
  two : IsBase (50 ∷ []) 2
  eight : IsBase (56 ∷ []) 8
  sixteen : IsBase (49 ∷ (54 ∷ [])) 16

pub base-is : (w : Text) (base : ℕ) → base_of w ≡ Some base → IsBase w base
base-is w base h =
    elim (chosen (bytes_eq w (codes "2")) (Some 2) (cond (bytes_eq w (codes "8")) (Some 8) (cond (bytes_eq w (codes "16")) (Some 16) None)) (Some base) h) [
      | inl p ↦ as_base (50 ∷ []) 2 (bytes_same w (codes "2") p.0) p.1 two
      | inr p ↦ elim (chosen (bytes_eq w (codes "8")) (Some 8) (cond (bytes_eq w (codes "16")) (Some 16) None) (Some base) p.1) [
        | inl q ↦ as_base (56 ∷ []) 8 (bytes_same w (codes "8") q.0) q.1 eight
        | inr q ↦ elim (chosen (bytes_eq w (codes "16")) (Some 16) None (Some base) q.1) [
          | inl r ↦ as_base (49 ∷ (54 ∷ [])) 16 (bytes_same w (codes "16") r.0) r.1 sixteen
          | inr r ↦ absurd cc
        ]
      ]
    ]
  where
    some : ℕ → Option ℕ
    some n = Some n

    as_base : (u : Text) (n : ℕ) → w ≡ u → some n ≡ some base → IsBase u n → IsBase w base
    as_base u n e f i = let m : n ≡ base = cc in subst (λ (v : Text). IsBase v base) (sym e) (subst (λ (k : ℕ). IsBase u k) m i)

-- a based literal at the front, by its base
based-reaches : {w : Text} {base : ℕ} → IsBase w base → (z rest : Text) (t : Token) (n : ℕ) → AreWord z → front (w ++ 35 ∷ (z ++ rest)) ≡ Ok (t, n) → length (w ++ 35 ∷ z) ≤ n
unfolding front literal
based-reaches two z rest t n a h = let f = whole-found (2 + word_len (z ++ rest)) (number 2 (word_of (z ++ rest))) t n h in omega (arith, longest z rest a, f.length_is)
based-reaches eight z rest t n a h = let f = whole-found (2 + word_len (z ++ rest)) (number 8 (word_of (z ++ rest))) t n h in omega (arith, longest z rest a, f.length_is)
based-reaches sixteen z rest t n a h = let f = whole-found (3 + word_len (z ++ rest)) (number 16 (word_of (z ++ rest))) t n h in omega (arith, longest z rest a, f.length_is)

pub base-most : {w : Text} {base : ℕ} → IsBase w base → base ≤ 16
base-most two = omega arith
base-most eight = omega arith
base-most sixteen = omega arith

abbrev Reaches : Text → Text → Token → ℕ → Type 0
Reaches a rest t n = front (a ++ rest) ≡ Ok (t, n) → length a ≤ n

decimal-reaches : (z rest : Text) (v : ℕ) (t : Token) (n : ℕ) → number 10 z ≡ Some v → Reaches z rest t n
decimal-reaches [] rest v t n e h = omega arith
decimal-reaches (b ∷ z) rest v t n e h =
    let d = literal-least (b ∷ (z ++ rest)) t n (sym (front-digit b (z ++ rest) (decimal-first (b ∷ z) v e)) ∙ h) in
    omega (arith, d, longest (b ∷ z) rest (number-word 10 (b ∷ z) v (omega arith) e))

time-reaches : (w y z rest : Text) (t : Token) (n : ℕ) → IsTimeWord w → is_time_word (in_upper w) ≡ true → front (w ++ 35 ∷ y) ≡ Ok (t, n) → time (w ++ 35 ∷ y) (length w + 1) ≡ Ok (t, n)
time-reaches w y z rest t n (time_word {b = b} {w = v} l a) i h =
    sym (word-is-time (b ∷ v) y a i) ∙ (sym (front-letter b (v ++ 35 ∷ y) l) ∙ h)

sign-reaches : (b : ℕ) (z rest : Text) (k : Mark) (t : Token) (n : ℕ) → is_word b ≡ false → sign_of b (at z 0) ≡ Some (k, length (b ∷ z)) → Reaches (b ∷ z) rest t n
sign-reaches b [] rest k t n f e h =
    let m = mark-found b (sign_of b (at rest 0)) t n (sym (front-sign b rest f) ∙ h) in sign-least b (at rest 0) m.mark n m.sign_is
sign-reaches b (c ∷ z) rest k t n f e h =
    let m = mark-found b (sign_of b c) t n (sym (front-sign b (c ∷ (z ++ rest)) f) ∙ h) in
    let same : sign k (length (b ∷ (c ∷ z))) ≡ sign m.mark n = sym e ∙ m.sign_is in
    omega (arith, same_length k m.mark (length (b ∷ (c ∷ z))) n same)

pub no-duration : (v : ℕ) → duration [] ≡ Some v → ⊥
unfolding parts number
no-duration v e = cc

none-longer : (u : Token) (a rest : Text) (t : Token) (n : ℕ) → IsToken u a → Reaches a rest t n
none-longer u a rest t n (is_name {b = b} {z = z} l w) h =
    omega (arith, word-least (b ∷ (z ++ rest)) t n (sym (front-letter b (z ++ rest) l) ∙ h), longest (b ∷ z) rest (or_left (is_letter b) (is_ascii_digit b) l, w))
none-longer u a rest t n (is_decimal {n = v} e) h = decimal-reaches a rest v t n e h
none-longer u a rest t n (is_based w z {base = base} {n = v} b e) h =
    let i = base-is w base b in
    based-reaches i z rest t n (number-word base z v (base-most i) e) (rw append_assoc at h)
none-longer u a rest t n (is_duration w [] {n = v} i e) h = absurd (no-duration v e)
none-longer u a rest t n (is_duration w (x ∷ z) {n = v} i e) h =
    duration-reaches w x z rest t n (duration-word (x ∷ z) v e) (time-reaches w (x ∷ z ++ rest) z rest t n (time-word w i) i (rw append_assoc at h))
none-longer u a rest t n (is_negative_duration w z {n = v} i e) h =
    negative-reaches w z rest t n (duration-word z v e) (time-reaches w (45 ∷ (z ++ rest)) z rest t n (time-word w i) i (rw append_assoc at h))
none-longer u a rest t n (is_sign {b = b} {z = z} {k = k} f e) h = sign-reaches b z rest k t n f e h

-- ---- what is found is a token

take-split : (i k : ℕ) (z : Text) → i < length z → take (i + 1 + k) z ≡ take i z ++ get_or z i 0 ∷ take k (drop (i + 1) z)
take-split i k [] lt = absurd (omega arith)
take-split zero k (x ∷ z) lt = let e : 0 + 1 + k ≡ suc k = omega arith in rw e refl
take-split (suc i) k (x ∷ z) lt =
    let e : suc i + 1 + k ≡ suc (i + 1 + k) = omega arith in
    let d : suc i + 1 ≡ suc (i + 1) = omega arith in
    rw (e, d) (ap (λ (y : Text). x ∷ y) (take-split i k z (omega arith)))

at-within : (z : Text) (i c : ℕ) → at z i ≡ suc c → i < length z
at-within z i c h = elim (cases_lt i (length z)) [
  | inl lt ↦ lt
  | inr le ↦ let past : at z i ≡ 0 = get_or_past z i 0 le in absurd (omega arith)
]

abbrev Fronts : Text → Token → ℕ → Type 0
Fronts z t n = IsToken t (take n z)

-- `#` at an index, and a word of some length after it
take-word : (z : Text) (i : ℕ) → at z i ≡ 35 → take (i + 1 + word_len (drop (i + 1) z)) z ≡ take i z ++ 35 ∷ word_of (drop (i + 1) z)
take-word z i h = take-split i (word_len (drop (i + 1) z)) z (at-within z i 34 h) ∙ ap (λ (c : ℕ). take i z ++ c ∷ word_of (drop (i + 1) z)) h

-- `#` and `-`, and a word after them
take-minus : (z : Text) (i : ℕ) → at z i ≡ 35 → at z (i + 1) ≡ 45 → take (i + 1 + 1 + word_len (drop (i + 1 + 1) z)) z ≡ take i z ++ 35 ∷ (45 ∷ word_of (drop (i + 1 + 1) z))
take-minus z i h m =
    let k = word_len (drop (i + 1 + 1) z) in
    let e : i + 1 + 1 + k ≡ i + 1 + suc k = omega arith in
    let rest : take (suc k) (drop (i + 1) z) ≡ 45 ∷ take k (drop (i + 1 + 1) z) = rw (drop_more z (i + 1) 0 (at-within z (i + 1) 44 m), m) refl in
    ap (λ (q : ℕ). take q z) e ∙ (take-split i (suc k) z (at-within z i 34 h) ∙ (ap (λ (c : ℕ). take i z ++ c ∷ take (suc k) (drop (i + 1) z)) h ∙ ap (λ (y : Text). take i z ++ 35 ∷ y) rest))

time-is : (z : Text) (t : Token) (n : ℕ) → at z (word_len z) ≡ 35 → is_time_word (in_upper (word_of z)) ≡ true → time z (word_len z + 1) ≡ Ok (t, n) → Fronts z t n
time-is z t n c i h = go (eqb (at z (word_len z + 1)) 45) refl (time-found z (word_len z + 1) t n h)
  where
    go : (b : Bool) → eqb (at z (word_len z + 1)) 45 ≡ b
        → Timed b (cond b (word_len z + 1 + 1) (word_len z + 1) + word_len (drop (cond b (word_len z + 1 + 1) (word_len z + 1)) z)) (duration (in_upper (word_of (drop (cond b (word_len z + 1 + 1) (word_len z + 1)) z)))) t n
        → Fronts z t n
    go true e f =
        let is = is_negative_duration (word_of z) (word_of (drop (word_len z + 1 + 1) z)) {n = f.ticks} i f.ticks_are in
        subst (λ (m : ℕ). Fronts z t m) f.length_is (subst (λ (u : Token). IsToken u (take (word_len z + 1 + 1 + word_len (drop (word_len z + 1 + 1) z)) z)) f.token_is
        (rw (take-minus z (word_len z) c (eqb-true (at z (word_len z + 1)) 45 e)) is))
    go false e f =
        let is = is_duration (word_of z) (word_of (drop (word_len z + 1) z)) {n = f.ticks} i f.ticks_are in
        subst (λ (m : ℕ). Fronts z t m) f.length_is (subst (λ (u : Token). IsToken u (take (word_len z + 1 + word_len (drop (word_len z + 1) z)) z)) f.token_is
        (rw (take-word z (word_len z) c) is))

word-is : (b : ℕ) (y : Text) (t : Token) (n : ℕ) → is_letter b ≡ true → word (b ∷ y) ≡ Ok (t, n) → Fronts (b ∷ y) t n
word-is b y t n l h = go (word-found (b ∷ y) t n h)
  where
    go : WordFound (b ∷ y) t n → Fronts (b ∷ y) t n
    go (as_time c i e) = time-is (b ∷ y) t n c i e
    go (as_name e f) =
        let cons = word_of-cons b y (or_left (is_letter b) (is_ascii_digit b) l) in
        subst (λ (m : ℕ). Fronts (b ∷ y) t m) f (subst (λ (u : Token). IsToken u (word_of (b ∷ y))) e (rw cons (is_name l (all_word y))))

literal-is : (z : Text) (t : Token) (n : ℕ) → literal z ≡ Ok (t, n) → Fronts z t n
literal-is z t n h = go (literal-found z t n h)
  where
    go : LiteralFound z t n → Fronts z t n
    go (with_base base c e f) =
        subst (λ (m : ℕ). Fronts z t m) f.length_is (subst (λ (u : Token). IsToken u (take (word_len z + 1 + word_len (drop (word_len z + 1) z)) z)) f.token_is
        (rw (take-word z (word_len z) c) (is_based (word_of z) (word_of (drop (word_len z + 1) z)) e f.value_is)))
    go (in_decimal f) = subst (λ (m : ℕ). Fronts z t m) f.length_is (subst (λ (u : Token). IsToken u (word_of z)) f.token_is (is_decimal f.value_is))

sign-is : (b : ℕ) (y : Text) (k : Mark) (n : ℕ) → is_word b ≡ false → sign_of b (at y 0) ≡ Some (k, n) → Fronts (b ∷ y) (token.Mark k) n
sign-is b y k zero f e = absurd (let some = sign-least b (at y 0) k zero e in omega arith)
sign-is b y k (suc zero) f e = is_sign f (sign-alone b (at y 0) k e)
sign-is b [] k (suc (suc n)) f e = absurd (sign-double b k n e)
sign-is b (c ∷ y) k (suc (suc zero)) f e = is_sign f e
sign-is b (c ∷ y) k (suc (suc (suc n))) f e = absurd (sign-most b c k n e)

token-is : (z : Text) (t : Token) (n : ℕ) → front z ≡ Ok (t, n) → Fronts z t n
token-is [] t n h = absurd (no-front h)
  where
    no-front : front [] ≡ Ok (t, n) → ⊥
    no-front e = let f : Err bad_byte ≡ found t n = sym front-empty ∙ e in cc
token-is (b ∷ y) t n h = elim (cases_Bool (is_letter b)) [
  | inl l ↦ word-is b y t n l (sym (front-letter b y l) ∙ h)
  | inr l ↦ elim (cases_Bool (is_ascii_digit b)) [
    | inl d ↦ literal-is (b ∷ y) t n (sym (front-digit b y d) ∙ h)
    | inr d ↦
        let f : is_word b ≡ false = or_from (is_letter b) (is_ascii_digit b) l d in
        let m = mark-found b (sign_of b (at y 0)) t n (sym (front-sign b y f) ∙ h) in
        subst (λ (u : Token). Fronts (b ∷ y) u n) m.token_is (sign-is b y m.mark n f m.sign_is)
  ]
]

-- ---- what follows a literal

stops-following : (z : Text) (i : ℕ) → is_word (at z (i + word_len (drop i z))) ≡ false
stops-following z i = subst (λ (b : ℕ). is_word b ≡ false) (get_or-drop i z (word_len (drop i z)) 0) (word-stops (drop i z))

named-no-literal : (text : Text) (o : Option Mark) (t : Token) → named text o ≡ t → IsLiteral t → ⊥
named-no-literal text None t e l = subst IsLiteral (sym e) l
named-no-literal text (Some k) t e l = subst IsLiteral (sym e) l

word-parted : (z : Text) (t : Token) (n : ℕ) → word z ≡ Ok (t, n) → IsLiteral t → is_word (at z n) ≡ false
word-parted z t n h l = go (word-found z t n h)
  where
    go : WordFound z t n → is_word (at z n) ≡ false
    go (as_time c i e) =
        let f = time-found z (word_len z + 1) t n e in
        subst (λ (m : ℕ). is_word (at z m) ≡ false) f.length_is (stops-following z (parts_start z (word_len z + 1)))
    go (as_name e f) = absurd (named-no-literal (in_upper (word_of z)) (keyword (in_upper (word_of z))) t e l)

literal-parted : (z : Text) (t : Token) (n : ℕ) → literal z ≡ Ok (t, n) → is_word (at z n) ≡ false
literal-parted z t n h = go (literal-found z t n h)
  where
    go : LiteralFound z t n → is_word (at z n) ≡ false
    go (with_base base c e f) = subst (λ (m : ℕ). is_word (at z m) ≡ false) f.length_is (stops-following z (word_len z + 1))
    go (in_decimal f) = subst (λ (m : ℕ). is_word (at z m) ≡ false) f.length_is (word-stops z)

token-parted : (z : Text) (t : Token) (n : ℕ) → front z ≡ Ok (t, n) → IsLiteral t → is_word (at z n) ≡ false
token-parted [] t n h l = absurd (let f : Err bad_byte ≡ found t n = sym front-empty ∙ h in cc)
token-parted (b ∷ y) t n h l = elim (cases_Bool (is_letter b)) [
  | inl c ↦ word-parted (b ∷ y) t n (sym (front-letter b y c) ∙ h) l
  | inr c ↦ elim (cases_Bool (is_ascii_digit b)) [
    | inl d ↦ literal-parted (b ∷ y) t n (sym (front-digit b y d) ∙ h)
    | inr d ↦
        let m = mark-found b (sign_of b (at y 0)) t n (sym (front-sign b y (or_from (is_letter b) (is_ascii_digit b) c d)) ∙ h) in
        absurd (subst IsLiteral (sym m.token_is) l)
  ]
]

pub takes-longest : TakesLongest
takes-longest z t n h = record {
  is_token = token-is z t n h;
  none_longer = λ u a rest i e. none-longer u a rest t n i (rw e h);
  parted = token-parted z t n h;
}

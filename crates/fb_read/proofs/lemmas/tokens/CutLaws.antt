-- A token is found at the front of a text exactly if it is cut off there.
use Rattle.fb_read.proofs.lemmas.Common.{◌≡◌, ℕ, ◌+◌, ◌≤◌, Bool, true, false, cond, eqb, pos, [], ◌∷◌, ◌++◌, length, take, drop, Option, Some, None, Ok, refl, sym, ap, subst, ◌∙◌, append_assoc, arith, ◌&&◌, is_ascii_digit, and_parts, eqb-true, true≢false, false_from_ne_true, length-append, Mark, Token, Text, at, is_letter, is_word, in_upper, keyword, word_len, word_of, number, time, sign_of, front}
use Rattle.fb_types.proofs.Common.{neg_ℤ, or_left, take_at}
use Rattle.fb_read.specs.declared.token.Token.TheVariants as token
use Rattle.fb_read.specs.Durations.{duration}
use Rattle.fb_read.specs.Front.{found, named, whole, base_of, is_time_word, word, literal, sign, marked}
use Rattle.fb_read.specs.Longest.{AreWord, IsToken, is_name, is_decimal, is_based, is_duration, is_negative_duration, is_sign, IsLiteral, BeginsLiteral, a_base, a_time_word, IsCut, CutsExactly}
use Rattle.fb_read.proofs.lemmas.tokens.ByteLaws.{number-word, decimal-first, duration-word}
use Rattle.fb_read.proofs.lemmas.tokens.LongestLaws.{time-found, parts_start-least, whole-found, Signs, none, alone, double, signs, IsTimeWord, time_word, time-word, word-is-time, at-following, drop-following, drop-two, not_minus, no-duration, IsBase, two, eight, sixteen, base-is, base-most, front-letter, front-digit, front-sign, takes-longest}

-- a word ends if no letter, digit or underscore follows
word-end : (w y : Text) → AreWord w → is_word (at y 0) ≡ false → word_len (w ++ y) ≡ length w
word-end [] [] h e = refl
word-end [] (c ∷ y) h e = rw e refl
word-end (b ∷ w) y h e = rw h.0 (omega (arith, word-end w y h.1 e))

word-there : (w y : Text) → AreWord w → is_word (at y 0) ≡ false → word_of (w ++ y) ≡ w
word-there w y h e = ap (λ (n : ℕ). take n (w ++ y)) (word-end w y h e) ∙ take_at w y (length w) refl

at-end : (w y : Text) → at (w ++ y) (length w) ≡ at y 0
at-end [] y = refl
at-end (b ∷ w) y = at-end w y

word-more : (w : Text) (c : ℕ) → AreWord w → is_word c ≡ true → AreWord (w ++ c ∷ [])
word-more [] c h e = (e, tt)
word-more (b ∷ w) c h e = (h.0, word-more w c h.1 e)

-- ---- what is cut off is found

abbrev Longest : Text → Text → Type 0
Longest a rest = (u : Token) (b more : Text) → IsToken u b → b ++ more ≡ a ++ rest → length b ≤ length a

abbrev NotBegun : Text → Text → Type 0
NotBegun a rest = BeginsLiteral a → at rest 0 ≡ 35 → ⊥

-- no name is the longest before a letter, digit or underscore
name-ends : (b : ℕ) (z rest : Text) → is_letter b ≡ true → AreWord z → Longest (b ∷ z) rest → is_word (at rest 0) ≡ false
name-ends b z [] l w h = refl
name-ends b z (c ∷ rest) l w h = false_from_ne_true (is_word c) (λ e.
    let more = h _ (b ∷ (z ++ c ∷ [])) rest (is_name l (word-more z c w e)) (ap (λ (y : Text). b ∷ y) (append_assoc z (c ∷ []) rest)) in
    let len = length-append z (c ∷ []) in
    omega (arith, more, len))

word-cut : (w y : Text) → AreWord w → is_word (at y 0) ≡ false → NotBegun w y → word (w ++ y) ≡ found (named (in_upper w) (keyword (in_upper w))) (length w)
unfolding word
word-cut w y a e n =
    let none : (eqb (at y 0) 35 && is_time_word (in_upper w)) ≡ false = false_from_ne_true _ (λ h. let p = and_parts (eqb (at y 0) 35) (is_time_word (in_upper w)) h in n (a_time_word p.1) (eqb-true (at y 0) 35 p.0)) in
    rw (word-end w y a e, take_at w y (length w) refl, at-end w y, none) refl

not-based : (w y : Text) → NotBegun w y → cond (eqb (at y 0) 35) (base_of w) None ≡ None
not-based w y n = go (eqb (at y 0) 35) refl
  where
    based : (o : Option ℕ) → base_of w ≡ o → at y 0 ≡ 35 → o ≡ None
    based None e h = refl
    based (Some base) e h = absurd (n (a_base e) h)

    go : (b : Bool) → eqb (at y 0) 35 ≡ b → cond b (base_of w) None ≡ None
    go true e = based (base_of w) refl (eqb-true (at y 0) 35 e)
    go false e = refl

decimal-cut : (w y : Text) (n : ℕ) → AreWord w → is_word (at y 0) ≡ false → number 10 w ≡ Some n → NotBegun w y → literal (w ++ y) ≡ found (token.Whole n) (length w)
unfolding literal
decimal-cut w y n a e v b = rw (word-end w y a e, take_at w y (length w) refl, at-end w y, not-based w y b, take_at w y (length w) refl, v) refl

whole-cut : (k m base : ℕ) (z y : Text) (n : ℕ) → AreWord z → is_word (at y 0) ≡ false → number base z ≡ Some n → m ≡ k + length z
    → whole (k + word_len (z ++ y)) (number base (word_of (z ++ y))) ≡ found (token.Whole n) m
whole-cut k m base z y n a e v l = rw (word-there z y a e, word-end z y a e, v, l) refl

based-cut : {w : Text} {base : ℕ} → IsBase w base → (z y : Text) (n : ℕ) → AreWord z → is_word (at y 0) ≡ false → number base z ≡ Some n
    → front (w ++ 35 ∷ (z ++ y)) ≡ found (token.Whole n) (length (w ++ 35 ∷ z))
unfolding front literal
based-cut two z y n a e v = whole-cut 2 (length (50 ∷ (35 ∷ z))) 2 z y n a e v (omega arith)
based-cut eight z y n a e v = whole-cut 2 (length (56 ∷ (35 ∷ z))) 8 z y n a e v (omega arith)
based-cut sixteen z y n a e v = whole-cut 3 (length (49 ∷ (54 ∷ (35 ∷ z)))) 16 z y n a e v (omega arith)

time-cut : (w y : Text) → IsTimeWord w → is_time_word (in_upper w) ≡ true → front (w ++ 35 ∷ y) ≡ time (w ++ 35 ∷ y) (length w + 1)
time-cut w y (time_word {b = b} {w = v} l a) i = front-letter b (v ++ 35 ∷ y) l ∙ word-is-time (b ∷ v) y a i

duration-cut : (w : Text) (x : ℕ) (z y : Text) (n : ℕ) → AreWord (x ∷ z) → is_word (at y 0) ≡ false → duration (in_upper (x ∷ z)) ≡ Some n
    → time (w ++ 35 ∷ (x ∷ z ++ y)) (length w + 1) ≡ found (token.Time (pos n)) (length (w ++ 35 ∷ (x ∷ z)))
unfolding time
duration-cut w x z y n a e v =
    let text = w ++ 35 ∷ (x ∷ z ++ y) in
    let here : at text (length w + 1) ≡ x = at-following w (x ∷ z ++ y) 35 in
    let following : drop (length w + 1) text ≡ x ∷ z ++ y = drop-following w (x ∷ z ++ y) 35 in
    let len : length (w ++ 35 ∷ (x ∷ z)) ≡ length w + 1 + length (x ∷ z) = rw (length-append w (35 ∷ (x ∷ z))) (omega arith) in
    rw (here, not_minus x a.0, following, word-there (x ∷ z) y a e, word-end (x ∷ z) y a e, v, len) refl

negative-cut : (w z y : Text) (n : ℕ) → AreWord z → is_word (at y 0) ≡ false → duration (in_upper z) ≡ Some n
    → time (w ++ 35 ∷ (45 ∷ (z ++ y))) (length w + 1) ≡ found (token.Time (neg_ℤ (pos n))) (length (w ++ 35 ∷ (45 ∷ z)))
unfolding time
negative-cut w z y n a e v =
    let text = w ++ 35 ∷ (45 ∷ (z ++ y)) in
    let here : at text (length w + 1) ≡ 45 = at-following w (45 ∷ (z ++ y)) 35 in
    let following : drop (length w + 1 + 1) text ≡ z ++ y = drop-two w (z ++ y) 35 45 in
    let len : length (w ++ 35 ∷ (45 ∷ z)) ≡ length w + 1 + 1 + length z = rw (length-append w (35 ∷ (45 ∷ z))) (omega arith) in
    rw (here, following, word-there z y a e, word-end z y a e, v, len) refl

sign-alone-cut : (b : ℕ) (rest : Text) (k : Mark) → is_word b ≡ false → sign_of b 0 ≡ sign k 1 → Longest (b ∷ []) rest → sign_of b (at rest 0) ≡ sign k 1
sign-alone-cut b [] k f e h = e
sign-alone-cut b (c ∷ rest) k f e h = go (signs b c) refl e
  where
    go : {u v : Option (Mark × ℕ)} → Signs u v → sign_of b c ≡ u → v ≡ sign k 1 → sign_of b c ≡ sign k 1
    go none s r = absurd cc
    go alone s r = s ∙ r
    go (double {j = j}) s r = absurd (omega (arith, h (token.Mark j) (b ∷ (c ∷ [])) rest (is_sign f s) refl))

sign-cut : (b : ℕ) (z rest : Text) (k : Mark) → is_word b ≡ false → sign_of b (at z 0) ≡ sign k (length (b ∷ z)) → Longest (b ∷ z) rest
    → front (b ∷ (z ++ rest)) ≡ found (token.Mark k) (length (b ∷ z))
sign-cut b [] rest k f e h = front-sign b rest f ∙ ap (marked b) (sign-alone-cut b rest k f e h)
sign-cut b (c ∷ z) rest k f e h = front-sign b (c ∷ (z ++ rest)) f ∙ ap (marked b) e

cut-found : (t : Token) (a rest : Text) → IsToken t a → Longest a rest → (IsLiteral t → is_word (at rest 0) ≡ false) → NotBegun a rest → front (a ++ rest) ≡ found t (length a)
cut-found t a rest (is_name {b = b} {z = z} l w) h p n =
    front-letter b (z ++ rest) l ∙ word-cut (b ∷ z) rest (or_left (is_letter b) (is_ascii_digit b) l, w) (name-ends b z rest l w h) n
cut-found t [] rest (is_decimal {n = v} e) h p n = absurd (true≢false (sym (decimal-first [] v e)))
cut-found t (b ∷ z) rest (is_decimal {n = v} e) h p n =
    front-digit b (z ++ rest) (decimal-first (b ∷ z) v e) ∙ decimal-cut (b ∷ z) rest v (number-word 10 (b ∷ z) v (omega arith) e) (p tt) e n
cut-found t a rest (is_based w z {base = base} {n = v} b e) h p n =
    let i = base-is w base b in
    rw append_assoc (based-cut i z rest v (number-word base z v (base-most i) e) (p tt) e)
cut-found t a rest (is_duration w [] {n = v} i e) h p n = absurd (no-duration v e)
cut-found t a rest (is_duration w (x ∷ z) {n = v} i e) h p n =
    rw append_assoc (time-cut w (x ∷ z ++ rest) (time-word w i) i ∙ duration-cut w x z rest v (duration-word (x ∷ z) v e) (p tt) e)
cut-found t a rest (is_negative_duration w z {n = v} i e) h p n =
    rw append_assoc (time-cut w (45 ∷ (z ++ rest)) (time-word w i) i ∙ negative-cut w z rest v (duration-word z v e) (p tt) e)
cut-found t a rest (is_sign {b = b} {z = z} {k = k} f e) h p n = sign-cut b z rest k f e h

-- ---- what is found is cut off

based-past : {w : Text} {base : ℕ} → IsBase w base → (y : Text) (t : Token) → front (w ++ 35 ∷ y) ≡ Ok (t, length w) → ⊥
unfolding front literal
based-past two y t h = let f = whole-found (2 + word_len y) (number 2 (word_of y)) t 1 h in omega (arith, f.length_is)
based-past eight y t h = let f = whole-found (2 + word_len y) (number 8 (word_of y)) t 1 h in omega (arith, f.length_is)
based-past sixteen y t h = let f = whole-found (3 + word_len y) (number 16 (word_of y)) t 2 h in omega (arith, f.length_is)

begun-past : (t : Token) (a y : Text) → front (a ++ 35 ∷ y) ≡ Ok (t, length a) → BeginsLiteral a → ⊥
begun-past t a y h (a_base {base = base} e) = based-past (base-is a base e) y t h
begun-past t a y h (a_time_word i) =
    let f = time-found (a ++ 35 ∷ y) (length a + 1) t (length a) (sym (time-cut a y (time-word a i) i) ∙ h) in
    omega (arith, f.length_is, parts_start-least (a ++ 35 ∷ y) (length a + 1))

found-cut : (t : Token) (a rest : Text) → front (a ++ rest) ≡ Ok (t, length a) → IsCut t a rest
found-cut t a rest h =
    let l = takes-longest (a ++ rest) t (length a) h in
    record {
      is_token = subst (IsToken t) (take_at a rest (length a) refl) l.is_token;
      none_longer = l.none_longer;
      parted = λ i. subst (λ (b : ℕ). is_word b ≡ false) (at-end a rest) (l.parted i);
      not_begun = not_begun rest h;
    }
  where
    not_begun : (rest : Text) → front (a ++ rest) ≡ Ok (t, length a) → BeginsLiteral a → at rest 0 ≡ 35 → ⊥
    not_begun [] h b e = absurd cc
    not_begun (c ∷ rest) h b e = begun-past t a rest (subst (λ (x : ℕ). front (a ++ x ∷ rest) ≡ Ok (t, length a)) e h) b

pub cuts-exactly : CutsExactly
cuts-exactly t a rest = (found-cut t a rest, λ c. cut-found t a rest c.is_token c.none_longer c.parted c.not_begun)

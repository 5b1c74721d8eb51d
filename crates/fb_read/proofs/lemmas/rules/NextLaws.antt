-- The first of the tokens that are left, and the refusal at it.
use Rattle.fb_read.proofs.lemmas.Common.{◌≡◌, ℕ, zero, suc, ◌+◌, ◌-◌, ◌<◌, ◌≤◌, List, [], ◌∷◌, length, get_or, drop, take, Result, Ok, Err, refl, sym, ap, subst, ◌∙◌, inl, inr, arith, drop_all, length-drop, take_all, cases_lt, Located, Token, Text, Found, bad_byte, front, AreLocated}
use Rattle.fb_types.proofs.Common.{IfOk}
use Rattle.fb_read.specs.declared.token.Span.{Span}
use Rattle.fb_read.specs.Located.{then_token, IsLocatedEnd}
use Rattle.fb_read.specs.Refusals.{IsNext}
use Rattle.fb_read.proofs.lemmas.tokens.TokenLaws.{front_empty}

-- the tokens that are left are those of an end of the text
pub located-drop : (text : Text) (k : ℕ) (ps : List Located) (z : Text) → AreLocated text ps z → IsLocatedEnd text (drop k ps)
located-drop text zero ps z a = record { rest = z; located = a }
located-drop text (suc k) [] z a = record { rest = z; located = a }
located-drop text (suc k) (p ∷ ps) z (then_token {rest = rest} h e d l a) = located-drop text k ps rest a

-- the first token of an end
pub record Begins (text : Text) (p : Located) : Type 0 where
  pub len : ℕ
  pub token : front (drop p.index text) ≡ Ok (p.token, len)

pub begins : (text : Text) (p : Located) (ps : List Located) → IsLocatedEnd text (p ∷ ps) → Begins text p
begins text p ps e = go e.rest e.located
  where
    go : (z : Text) → AreLocated text (p ∷ ps) z → Begins text p
    go z (then_token {n = n} h e d l a) = record { len = n; token = ap (λ (y : Text). front y) l ∙ e }

not_both : (o : Found) → o ≡ Err bad_byte → (p : Located) (n : ℕ) → o ≡ Ok (p.token, n) → ⊥
not_both o h p n e = cc

-- it begins in the text
pub begins-within : (text : Text) (p : Located) → Begins text p → length text ≤ p.index → ⊥
begins-within text p b le = not_both (front (drop p.index text)) (ap (λ (y : Text). front y) (drop_all p.index text le) ∙ front_empty) p b.len b.token

abbrev found : Token × ℕ → Found
found p = Ok p

same-found : (p q : Token × ℕ) → found p ≡ found q → p ≡ q
same-found p q e = cc

pub same-length : (o : Found) (t u : Token) (m n : ℕ) → o ≡ Ok (t, m) → o ≡ Ok (u, n) → m ≡ n
same-length o t u m n h k = ap (λ (p : Token × ℕ). p.1) (same-found (t, m) (u, n) (sym h ∙ k))

pub begins-before : (text : Text) (p : Located) → Begins text p → p.index < length text
begins-before text p b = elim (cases_lt p.index (length text)) [ inl lt ↦ lt | inr le ↦ absurd (begins-within text p b le) ]

-- where the first of the tokens that are left is
at-first : (text : Text) (p : Located) (ps : List Located) (t : Token) (len : ℕ) → IsLocatedEnd text (p ∷ ps) → front (drop p.index text) ≡ Ok (t, len) → 0 < len
    → len ≤ length (drop p.index text) → IsNext (p ∷ ps) text p.index (p.index + len)
at-first text p ps t len e h some fits =
    let b = begins text p ps e in
    let n : b.len ≡ len = same-length (front (drop p.index text)) p.token t b.len len b.token h in
    let span : p.index + len - p.index ≡ b.len = omega (arith, n) in
    let whole : length (drop p.index text) ≡ length text - p.index = length-drop p.index text in
    let inside : p.index < length text = begins-before text p b in
    (refl, b.token ∙ ap (λ m. Ok (p.token, m)) (sym span), omega arith, omega arith)

-- ---- the tokens that are left, as a function has them

abbrev rest_at : ℕ → Text → Text
rest_at n text = take (length text - n) (drop n text)

rest-whole : (n : ℕ) (text : Text) → rest_at n text ≡ drop n text
rest-whole n text = take_all (length text - n) (drop n text) (omega (arith, length-drop n text))

pub first-before : (text : Text) (left : List Located) (p d : Located) → IsLocatedEnd text left → 1 ≤ length left → p ≡ get_or left 0 d → p.index < length text
first-before text [] p d e some same = absurd (omega arith)
first-before text (q ∷ qs) p d e some same =
    let is : p ≡ q = same in
    subst (λ (x : Located). x.index < length text) (sym is) (begins-before text q (begins text q qs e))

pub at-front : (text : Text) (left : List Located) (p d : Located) (t : Token) (len : ℕ) → IsLocatedEnd text left → 1 ≤ length left → p ≡ get_or left 0 d
    → front (rest_at p.index text) ≡ Ok (t, len) → 0 < len → len ≤ length (rest_at p.index text) → IsNext left text p.index (p.index + len)
at-front text [] p d t len e some same h positive fits = absurd (omega arith)
at-front text (q ∷ qs) p d t len e some same h positive fits =
    let is : p ≡ q = same in
    let whole = rest-whole q.index text in
    subst (λ (x : Located). IsNext (q ∷ qs) text x.index (x.index + len)) (sym is)
    (at-first text q qs t len e
    (ap (λ (y : Text). front y) (sym whole) ∙ subst (λ (x : Located). front (rest_at x.index text) ≡ Ok (t, len)) is h)
    positive
    (subst (λ (y : Text). len ≤ length y) whole (subst (λ (x : Located). len ≤ length (rest_at x.index text)) is fits)))

pub at-end : (text : Text) (left : List Located) → length left < 1 → IsNext left text (length text) (length text)
at-end text [] none = (refl, refl)
at-end text (p ∷ ps) none = absurd (omega arith)

abbrev left_at : ℕ → List Located → List Located
left_at n ps = take (length ps - n) (drop n ps)

left-whole : (n : ℕ) (ps : List Located) → left_at n ps ≡ drop n ps
left-whole n ps = take_all (length ps - n) (drop n ps) (omega (arith, length-drop n ps))

pub located-left : (text : Text) (k : ℕ) (ps : List Located) (z : Text) → AreLocated text ps z → IsLocatedEnd text (left_at k ps)
located-left text k ps z a = subst (λ (qs : List Located). IsLocatedEnd text qs) (sym (left-whole k ps)) (located-drop text k ps z a)

at-left : (text : Text) (ps : List Located) (k j start end : ℕ) → k ≡ j → IsNext (left_at k ps) text start end → IsNext (drop j ps) text start end
at-left text ps k j start end same h =
    subst (λ (n : ℕ). IsNext (drop n ps) text start end) same (subst (λ (qs : List Located). IsNext qs text start end) (left-whole k ps) h)

pub span-left : {E : Type 0} (text : Text) (ps : List Located) (k j : ℕ) (r : Result Span E) → k ≡ j → IfOk r (λ s. IsNext (left_at k ps) text s.start s.end)
    → IfOk r (λ s. IsNext (drop j ps) text s.start s.end)
span-left text ps k j (Ok s) same h = at-left text ps k j s.start s.end same h
span-left text ps k j (Err e) same h = h

-- The tokens of the bytes of a text up to the end of one of its tokens are those up to it.
use Rattle.fb_read.proofs.lemmas.Common.{◌≡◌, ℕ, zero, suc, ◌+◌, ◌-◌, ◌<◌, ◌≤◌, Bool, true, false, cond, eqb, List, [], ◌∷◌, ◌++◌, length, take, drop, Option, Some, None, Ok, refl, sym, ap, subst, ◌∙◌, append_assoc, inl, inr, arith, ◌&&◌, and_parts, cases_lt, eqb-true, false_from_ne_true, true≢false, drop_all, length-drop, length-take, take-append-drop, BlankState, Located, Token, Text, at, skip, start, step, stepped, is_word, front, tokens_of, after_mark, AreLocated}
use Rattle.fb_types.proofs.Common.{get_or-take, get_or_past, length-take-le, take-take}
use Rattle.std.proofs.lemmas.List.{drop-take}
use Rattle.fb_read.specs.declared.blank.BlankState.TheVariants.{Between, Opening, Inside, Closing, Line}
use Rattle.fb_read.specs.Blank.{is_blank}
use Rattle.fb_read.specs.Tokens.{AreTokens}
use Rattle.fb_read.specs.Tokens as tokens
use Rattle.fb_read.specs.Located.{no_more, then_token}
use Rattle.fb_read.specs.Longest.{IsCut}
use Rattle.fb_read.specs.Refusals.{IsNext}
use Rattle.fb_read.proofs.lemmas.tokens.CutLaws.{cuts-exactly}
use Rattle.fb_read.proofs.lemmas.tokens.TextEnds.{end-length, skip-end}
use Rattle.fb_read.proofs.lemmas.rules.NextLaws.{same-length}
use Rattle.fb_read.proofs.lemmas.tokens.TokenLaws.{front_empty}

take-sum : (n j : ℕ) (z : Text) → take (n + j) z ≡ take n z ++ take j (drop n z)
take-sum n j z = sym (take-append-drop n (take (n + j) z)) ∙ rw (take-take n (n + j) z (omega arith), drop-take n j z) refl

at-take : (j : ℕ) (z : Text) → at (take (suc j) z) 0 ≡ at z 0
at-take j [] = refl
at-take j (b ∷ z) = refl

-- ---- a token, cut off before a beginning of what follows it

parted-before : (j : ℕ) (rest : Text) → is_word (at rest 0) ≡ false → is_word (at (take j rest) 0) ≡ false
parted-before zero rest h = refl
parted-before (suc j) rest h = ap (λ (b : ℕ). is_word b) (at-take j rest) ∙ h

begun-before : (j : ℕ) (rest : Text) → (at rest 0 ≡ 35 → ⊥) → at (take j rest) 0 ≡ 35 → ⊥
begun-before zero rest n h = let e : 0 ≡ 35 = h in absurd (omega arith)
begun-before (suc j) rest n h = n (sym (at-take j rest) ∙ h)

cut-before : (t : Token) (a rest : Text) (j : ℕ) → IsCut t a rest → IsCut t a (take j rest)
cut-before t a rest j c = record {
  is_token = c.is_token;
  none_longer = λ u b more is joined. c.none_longer u b (more ++ drop j rest) is
      (sym (append_assoc b more (drop j rest)) ∙ ap (λ (z : Text). z ++ drop j rest) joined ∙ append_assoc a (take j rest) (drop j rest) ∙ ap (λ (z : Text). a ++ z) (take-append-drop j rest));
  parted = λ l. parted-before j rest (c.parted l);
  not_begun = λ b h. begun-before j rest (c.not_begun b) h;
}

front-before : (t : Token) (n m : ℕ) (z : Text) → front z ≡ Ok (t, n) → n ≤ length z → n ≤ m → front (take m z) ≡ Ok (t, n)
front-before t n m z h short le =
    let len : length (take n z) ≡ n = length-take-le n z short in
    let whole : m ≡ n + (m - n) = omega arith in
    let found : front (take n z ++ drop n z) ≡ Ok (t, length (take n z)) = ap (λ (y : Text). front y) (take-append-drop n z) ∙ h ∙ ap (λ (k : ℕ). Ok (t, k)) (sym len) in
    let c = cut-before t (take n z) (drop n z) (m - n) ((cuts-exactly t (take n z) (drop n z)).0 found) in
    ap (λ (k : ℕ). front (take k z)) whole ∙ ap (λ (y : Text). front y) (take-sum n (m - n) z) ∙ (cuts-exactly t (take n z) (take (m - n) (drop n z))).1 c ∙ ap (λ (k : ℕ). Ok (t, k)) len

-- ---- blanks and comments before a token of which something is left

abbrev at_state : BlankState → Option BlankState
at_state p = Some p

-- what begins a token does so at the end of a text too
step-end : (p : BlankState) (b next : ℕ) → step p b next ≡ None → step p b 0 ≡ None
step-end Between b next h = go (is_blank b) (eqb b 40) (eqb b 47) (eqb next 42) (eqb next 47) h
  where
    go : (w x y u v : Bool) → cond w (at_state Between) (cond (x && u) (Some Opening) (cond (y && v) (Some Line) None)) ≡ None
        → cond w (at_state Between) (cond (x && false) (Some Opening) (cond (y && false) (Some Line) None)) ≡ None
    go true x y u v h = h
    go false true true u v h = refl
    go false true false u v h = refl
    go false false true u v h = refl
    go false false false u v h = refl
step-end Opening b next h = absurd cc
step-end Inside b next h = go (eqb b 42 && eqb next 41) h
  where
    go : (w : Bool) → cond w (at_state Closing) (Some Inside) ≡ None → step Inside b 0 ≡ None
    go true e = absurd cc
    go false e = absurd cc
step-end Closing b next h = absurd cc
step-end Line b next h = h

stays : (p : BlankState) (b : ℕ) (bs : Text) (m : ℕ) → step p b (at bs 0) ≡ None → skip p (b ∷ take m bs) ≡ Some (b ∷ take m bs)
unfolding skip
stays p b bs zero e = ap (λ (o : Option BlankState). stepped (λ q. skip q []) (b ∷ []) o) (step-end p b (at bs 0) e)
stays p b bs (suc m) e = rw (at-take m bs, e) refl

passes : (p q : BlankState) (b : ℕ) (bs : Text) (k : ℕ) → step p b (at bs 0) ≡ Some q → skip p (b ∷ take (suc k) bs) ≡ skip q (take (suc k) bs)
unfolding skip
passes p q b bs k e = rw (at-take k bs, e) refl

skip-before : (p : BlankState) (z here : Text) (s m : ℕ) → skip p z ≡ Some here → length z ≡ s + length here → 0 < length here → skip p (take (s + suc m) z) ≡ Some (take (suc m) here)
unfolding skip
skip-before p [] here s m h l some = absurd (omega arith)
skip-before p (b ∷ bs) here s m h l some = go (λ q r k e. skip-before q bs here r m k e some) (step p b (at bs 0)) refl h
  where
    go : ((q : BlankState) (r : ℕ) → skip q bs ≡ Some here → length bs ≡ r + length here → skip q (take (r + suc m) bs) ≡ Some (take (suc m) here)) → (o : Option BlankState) → step p b (at bs 0) ≡ o
        → stepped (λ q. skip q bs) (b ∷ bs) o ≡ Some here → skip p (take (s + suc m) (b ∷ bs)) ≡ Some (take (suc m) here)
    go deeper None e k =
        let same : b ∷ bs ≡ here = cc in
        let n = ap (λ (y : Text). length y) same in
        let all : s + suc m ≡ suc m = omega arith in
        ap (λ (j : ℕ). skip p (take j (b ∷ bs))) all ∙ stays p b bs m e ∙ ap (λ (y : Text). Some (take (suc m) y)) same
    go deeper (Some q) e k =
        let short = end-length here bs (skip-end q bs here k) in
        let one : s + suc m ≡ suc ((s - 1) + suc m) = omega arith in
        let more : (s - 1) + suc m ≡ suc ((s - 1) + m) = omega arith in
        ap (λ (j : ℕ). skip p (take j (b ∷ bs))) one ∙ ap (λ (j : ℕ). skip p (b ∷ take j bs)) more ∙ passes p q b bs ((s - 1) + m) e ∙ ap (λ (j : ℕ). skip q (take j bs)) (sym more)
        ∙ deeper q (s - 1) k (omega arith)

-- ---- tokens

front-some : (z : Text) (t : Token) (n : ℕ) → front z ≡ Ok (t, n) → 0 < length z
front-some [] t n h = absurd (let e = sym front_empty ∙ h in cc)
front-some (b ∷ z) t n h = omega arith

located-some : (text : Text) (ps : List Located) (z : Text) → AreLocated text ps z → 0 < length ps → 0 < length z
located-some text [] z a some = absurd (omega arith)
located-some text (p ∷ ps) z (then_token {n = n} {here = here} h e d l a) some = omega (arith, front-some here p.token n e, end-length here z (skip-end start z here h))

-- the rest after a token is no longer than what the token begins
rest-length : (z here rest : Text) (n : ℕ) → skip start z ≡ Some here → drop n here ≡ rest → length rest ≤ length z
rest-length z here rest n h d = let e = ap (λ (y : Text). length y) d in omega (arith, length-drop n here, end-length here z (skip-end start z here h))

-- a token that is left, or the end of the text, is in what these are the tokens of
pub next-after : (text : Text) (k begin end : ℕ) (ps : List Located) (z : Text) → AreLocated text ps z → IsNext (drop k ps) text begin end → length text ≤ begin + length z
next-after text zero begin end [] z a x = omega (arith, x.0)
next-after text (suc k) begin end [] z a x = omega (arith, x.0)
next-after text zero begin end (p ∷ ps) z (then_token {here = here} h e d l a) x =
    let len = ap (λ (y : Text). length y) l in
    omega (arith, x.0, length-drop p.index text, end-length here z (skip-end start z here h))
next-after text (suc k) begin end (p ∷ ps) z (then_token {n = n} {here = here} {rest = rest} h e d l a) x =
    omega (arith, next-after text k begin end ps rest a x, rest-length z here rest n h d)

-- the last of the tokens is there
record IsLast (text : Text) (p : Located) (begin end : ℕ) : Type 0 where
  begins : begin ≡ p.index
  token : front (drop begin text) ≡ Ok (p.token, end - begin)
  some : begin < end
  within : end ≤ length text

last-is : (text : Text) (p : Located) (ps : List Located) (begin end : ℕ) → IsNext (p ∷ ps) text begin end → IsLast text p begin end
last-is text p ps begin end x = record { begins = x.0; token = x.1; some = x.2; within = x.3 }

-- the end of a text has no token
none-left : AreTokens [] []
unfolding skip
none-left = tokens.no_more refl

last-token : (text : Text) (begin end k : ℕ) (p : Located) (z here : Text) (n : ℕ) → skip start z ≡ Some here → front here ≡ Ok (p.token, n) → drop p.index text ≡ here → IsLast text p begin end
    → k + length text ≡ end + length z → AreTokens (p.token ∷ []) (take k z)
last-token text begin end k p z here n h e l w fits =
    let there : drop begin text ≡ here = ap (λ (i : ℕ). drop i text) w.begins ∙ l in
    let len : n ≡ end - begin = same-length (front here) p.token p.token n (end - begin) e (ap (λ (y : Text). front y) (sym there) ∙ w.token) in
    let size = ap (λ (y : Text). length y) there in
    let whole = length-drop begin text in
    let short = end-length here z (skip-end start z here h) in
    let inside : n ≤ length here = omega (arith, w.some, w.within) in
    let parts : k ≡ (length z - length here) + suc (n - 1) = omega (arith, w.some, w.within) in
    let all : suc (n - 1) ≡ n = omega (arith, w.some) in
    let skipped : skip start (take k z) ≡ Some (take n here) =
    ap (λ (j : ℕ). skip start (take j z)) parts ∙ skip-before start z here (length z - length here) (n - 1) h (omega arith) (omega (arith, w.some, w.within)) ∙ ap (λ (j : ℕ). Some (take j here)) all in
    let over : drop n (take n here) ≡ [] = drop_all n (take n here) (omega (arith, length-take-le n here inside)) in
    tokens.then_token skipped (front-before p.token n n here e inside (omega arith)) over none-left

one-token : (text : Text) (k m : ℕ) (p : Located) (ts : tokens.Tokens) (z here rest : Text) (n : ℕ) → skip start z ≡ Some here → front here ≡ Ok (p.token, n) → drop n here ≡ rest → 0 < length rest
    → 0 < m → k + length rest ≡ m + length z → AreTokens ts (take m rest) → AreTokens (p.token ∷ ts) (take k z)
one-token text k m p ts z here rest n h e d more some fits following =
    let size = ap (λ (y : Text). length y) d in
    let whole = length-drop n here in
    let short = end-length here z (skip-end start z here h) in
    let parts : k ≡ (length z - length here) + suc (n + m - 1) = omega arith in
    let all : suc (n + m - 1) ≡ n + m = omega arith in
    let skipped : skip start (take k z) ≡ Some (take (n + m) here) =
    ap (λ (j : ℕ). skip start (take j z)) parts ∙ skip-before start z here (length z - length here) (n + m - 1) h (omega arith) (omega arith) ∙ ap (λ (j : ℕ). Some (take j here)) all in
    let over : drop n (take (n + m) here) ≡ take m rest = drop-take n m here ∙ ap (λ (y : Text). take m y) d in
    tokens.then_token skipped (front-before p.token n (n + m) here e (omega arith) (omega arith)) over following

-- the end of a token is after the beginning of what it is a token of
past-last : (text : Text) (begin end i : ℕ) (ps : List Located) (z : Text) → AreLocated text ps z → i < length ps → IsNext (drop i ps) text begin end → length text < end + length z
past-last text begin end i [] z a lt x = absurd (omega arith)
past-last text begin end zero (p ∷ ps) z a lt x = omega (arith, next-after text 0 begin end (p ∷ ps) z a x, x.2)
past-last text begin end (suc i) (p ∷ ps) z (then_token {n = n} {here = here} {rest = rest} h e d l a) lt x =
    omega (arith, past-last text begin end i ps rest a (omega arith) x, rest-length z here rest n h d)

-- the tokens of an end of the text, up to the end of one of them
tokens-up-to : (text : Text) (begin end i : ℕ) (ps : List Located) (z : Text) (k : ℕ) → AreLocated text ps z → i < length ps → IsNext (drop i ps) text begin end → k + length text ≡ end + length z
    → AreTokens (tokens_of (take (suc i) ps)) (take k z)
tokens-up-to text begin end i [] z k a lt x fits = absurd (omega arith)
tokens-up-to text begin end zero (p ∷ ps) z k (then_token {n = n} {here = here} h e d l a) lt x fits =
    last-token text begin end k p z here n h e l (last-is text p ps begin end x) fits
tokens-up-to text begin end (suc i) (p ∷ ps) z k (then_token {n = n} {here = here} {rest = rest} h e d l a) lt x fits =
    let some = located-some text ps rest a (omega arith) in
    let past = past-last text begin end i ps rest a (omega arith) x in
    one-token text k (end + length rest - length text) p (tokens_of (take (suc i) ps)) z here rest n h e d some (omega arith) (omega arith)
    (tokens-up-to text begin end i ps rest (end + length rest - length text) a (omega arith) x (omega arith))

-- ---- the byte order mark

-- a byte other than 0 of a beginning of a text is one of the text
byte-before : (n : ℕ) (z : Text) (i c : ℕ) → at (take n z) i ≡ suc c → at z i ≡ suc c
byte-before n z i c h = elim (cases_lt i n) [
  | inl lt ↦ sym (get_or-take n z i 0 lt) ∙ h
  | inr le ↦ let past : at (take n z) i ≡ 0 = get_or_past (take n z) i 0 (omega (arith, length-take n z)) in absurd (omega arith)
]

abbrev pub has_mark : Text → Bool
has_mark z = eqb (at z 0) 239 && (eqb (at z 1) 187 && eqb (at z 2) 191)

marked-before : (n : ℕ) (z : Text) → has_mark (take n z) ≡ true → has_mark z ≡ true
marked-before n z h =
    let p = and_parts (eqb (at (take n z) 0) 239) _ h in
    let q = and_parts (eqb (at (take n z) 1) 187) _ p.1 in
    let a : at z 0 ≡ 239 = byte-before n z 0 238 (eqb-true (at (take n z) 0) 239 p.0) in
    let b : at z 1 ≡ 187 = byte-before n z 1 186 (eqb-true (at (take n z) 1) 187 q.0) in
    let c : at z 2 ≡ 191 = byte-before n z 2 190 (eqb-true (at (take n z) 2) 191 q.1) in
    rw (a, b, c) refl

marked-after : (n : ℕ) (z : Text) → 2 < n → has_mark (take n z) ≡ has_mark z
marked-after n z lt =
    let a : at (take n z) 0 ≡ at z 0 = get_or-take n z 0 0 (omega arith) in
    let b : at (take n z) 1 ≡ at z 1 = get_or-take n z 1 0 (omega arith) in
    let c : at (take n z) 2 ≡ at z 2 = get_or-take n z 2 0 lt in
    rw (a, b, c) refl

marked-long : (z : Text) → has_mark z ≡ true → 2 < length z
marked-long z h = elim (cases_lt 2 (length z)) [
  | inl lt ↦ lt
  | inr le ↦
      let q = and_parts (eqb (at z 1) 187) _ (and_parts (eqb (at z 0) 239) _ h).1 in
      let past : at z 2 ≡ 0 = get_or_past z 2 0 le in
      let there : at z 2 ≡ 191 = eqb-true (at z 2) 191 q.1 in
      absurd (omega arith)
]

mark-before : (end : ℕ) (text : Text) → length text < end + length (after_mark text) → after_mark (take end text) ≡ take (end + length (after_mark text) - length text) (after_mark text)
mark-before end text lt = go (has_mark text) refl
  where
    go : (b : Bool) → has_mark text ≡ b → after_mark (take end text) ≡ take (end + length (after_mark text) - length text) (after_mark text)
    go true e =
        let is : after_mark text ≡ drop 3 text = ap (λ (c : Bool). cond c (drop 3 text) text) e in
        let size = ap (λ (y : Text). length y) is in
        let len = length-drop 3 text in
        let long = marked-long text e in
        let marked : has_mark (take end text) ≡ true = marked-after end text (omega arith) ∙ e in
        let whole : end ≡ 3 + (end - 3) = omega arith in
        let kept : end - 3 ≡ end + length (after_mark text) - length text = omega arith in
        ap (λ (c : Bool). cond c (drop 3 (take end text)) (take end text)) marked ∙ ap (λ (k : ℕ). drop 3 (take k text)) whole ∙ drop-take 3 (end - 3) text
        ∙ ap (λ (y : Text). take (end - 3) y) (sym is) ∙ ap (λ (k : ℕ). take k (after_mark text)) kept
    go false e =
        let is : after_mark text ≡ text = ap (λ (c : Bool). cond c (drop 3 text) text) e in
        let size = ap (λ (y : Text). length y) is in
        let unmarked : has_mark (take end text) ≡ false = false_from_ne_true (has_mark (take end text)) (λ m. true≢false (sym (marked-before end text m) ∙ e)) in
        let kept : end ≡ end + length (after_mark text) - length text = omega arith in
        ap (λ (c : Bool). cond c (drop 3 (take end text)) (take end text)) unmarked ∙ ap (λ (y : Text). take end y) (sym is) ∙ ap (λ (k : ℕ). take k (after_mark text)) kept

-- the tokens of the bytes up to the end of a token
pub tokens-before : (text : Text) (ps : List Located) (i begin end : ℕ) → AreLocated text ps (after_mark text) → i < length ps → IsNext (drop i ps) text begin end
    → AreTokens (tokens_of (take (suc i) ps)) (after_mark (take end text))
tokens-before text ps i begin end a lt x =
    let past = past-last text begin end i ps (after_mark text) a lt x in
    subst (λ (y : Text). AreTokens (tokens_of (take (suc i) ps)) y) (sym (mark-before end text past))
    (tokens-up-to text begin end i ps (after_mark text) (end + length (after_mark text) - length text) a lt x (omega arith))

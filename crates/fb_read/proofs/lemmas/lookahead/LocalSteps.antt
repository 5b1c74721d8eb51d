-- The steps that every rule is made of look one token ahead.
use Rattle.fb_read.proofs.lemmas.Common.{◌≡◌, ℕ, ◌+◌, ◌<◌, ◌≤◌, Bool, true, false, cond, [], ◌∷◌, ◌++◌, length, Option, Some, None, Ok, Err, ℤ, pos, refl, ◌∙◌, eqb, arith, bytes_eq, Name, length-append, Token, Mark, Tokens, Outcome, Parser, syntax, too_deep, and_then, ◌>>=◌, eat, after, expect, name, name_if, word, ty_name, whole, one, literal}
use Rattle.fb_types.specs.declared.value.Ty.{Ty}
use Rattle.fb_read.specs.declared.token.Token.TheVariants as token
use Rattle.fb_read.specs.Parser.{is_mark, ty_of, typed}
use Rattle.fb_read.proofs.lemmas.lookahead.OneTokenAhead.{Local, Nests, Step, taken, kept, denied, on, stepped, looks-bind, looks-cond, local-step, local-as}

-- ---- one token

abbrev eat_step : Mark → Token → Step Bool
eat_step k t = cond (is_mark k t) (taken true) (kept false)

eat-by : (b : Bool) (t : Token) (ts : Tokens) → Ok (b, cond b ts (t ∷ ts)) ≡ on (cond b (taken true) (kept false)) t ts
eat-by true t ts = refl
eat-by false t ts = refl

eat-is : (k : Mark) (ts : Tokens) → eat k ts ≡ stepped (kept false) (eat_step k) ts
unfolding after
eat-is k [] = refl
eat-is k (t ∷ ts) = eat-by (is_mark k t) t ts

pub local-eat : (k : Mark) → Local (eat k)
local-eat k = local-as (eat k) (stepped (kept false) (eat_step k)) (eat-is k) (local-step (kept false) (eat_step k))

-- a token that passes a test is taken, and any other is refused
abbrev pub tested : {A : Type 0} → Bool → A → Step A
tested b x = cond b (taken x) denied

tested-by : {A : Type 0} (b : Bool) (x : A) (t : Token) (ts : Tokens) → cond b (Ok (x, ts)) (Err (syntax (t ∷ ts))) ≡ on (tested b x) t ts
tested-by true x t ts = refl
tested-by false x t ts = refl

expect-is : (k : Mark) (ts : Tokens) → expect k ts ≡ stepped denied (λ t. tested (is_mark k t) tt) ts
unfolding expect
expect-is k [] = refl
expect-is k (t ∷ ts) = tested-by (is_mark k t) tt t ts

pub local-expect : (k : Mark) → Local (expect k)
local-expect k = local-as (expect k) (stepped denied (λ t. tested (is_mark k t) tt)) (expect-is k) (local-step denied (λ t. tested (is_mark k t) tt))

-- what follows a mark may nest too deep at once
pub local-eat-then : {A : Type 0} (k : Mark) (p q : Parser A) → Nests p → Local q → Local (eat k >>= (λ b. cond b p q))
unfolding after
local-eat-then {A = A} k p q l m = record {
  looks = looks-bind (eat k) (λ b. cond b p q) (local-eat k).looks (λ b. looks-cond b p q l.looks m.looks);
  deep = deep-of;
  flat = λ h. m.flat h;
}
  where
    go : (b : Bool) (t : Token) (ts more : Tokens) → (cond b p q) (cond b ts (t ∷ ts)) ≡ Err too_deep → (cond b p q) (cond b (ts ++ more) (t ∷ (ts ++ more))) ≡ Err too_deep
    go true t ts more h = l.deep ts more h
    go false t ts more h = m.deep (t ∷ ts) more h

    deep-of : (ts more : Tokens) → (eat k >>= (λ b. cond b p q)) ts ≡ Err too_deep → (eat k >>= (λ b. cond b p q)) (ts ++ more) ≡ Err too_deep
    deep-of [] more h = absurd (m.flat h)
    deep-of (t ∷ ts) more h = go (is_mark k t) t ts more h

abbrev passed : Tokens → Outcome (Unit {0})
passed ts = Ok (tt, ts)

abbrev stuck : Tokens → Outcome (Unit {0})
stuck ts = Err (syntax ts)

pub local-expect-then : {A : Type 0} (k : Mark) (p : Parser A) → Nests p → Local (expect k >>= (λ _. p))
unfolding expect
local-expect-then {A = A} k p l = record {
  looks = looks-bind (expect k) (λ _. p) (local-expect k).looks (λ _. l.looks);
  deep = deep-of;
  flat = λ h. no-deep [] h;
}
  where
    no-deep : (ts : Tokens) → and_then (stuck ts) (λ _. p) ≡ Err too_deep → ⊥
    no-deep ts h = cc

    go : (b : Bool) (t : Token) (ts more : Tokens) → and_then (cond b (passed ts) (stuck (t ∷ ts))) (λ _. p) ≡ Err too_deep
        → and_then (cond b (passed (ts ++ more)) (stuck (t ∷ (ts ++ more)))) (λ _. p) ≡ Err too_deep
    go true t ts more h = l.deep ts more h
    go false t ts more h = absurd (no-deep (t ∷ ts) h)

    deep-of : (ts more : Tokens) → (expect k >>= (λ _. p)) ts ≡ Err too_deep → (expect k >>= (λ _. p)) (ts ++ more) ≡ Err too_deep
    deep-of [] more h = absurd (no-deep [] h)
    deep-of (t ∷ ts) more h = go (is_mark k t) t ts more h

abbrev name_step : Token → Step Name
name_step (token.Name text) = taken text
name_step (token.Mark k) = denied
name_step (token.Whole n) = denied
name_step (token.Time n) = denied

name-is : (ts : Tokens) → name ts ≡ stepped denied name_step ts
unfolding name
name-is [] = refl
name-is (token.Name text ∷ ts) = refl
name-is (token.Mark k ∷ ts) = refl
name-is (token.Whole n ∷ ts) = refl
name-is (token.Time n ∷ ts) = refl

pub local-name : Local name
local-name = local-as name (stepped denied name_step) name-is (local-step denied name_step)

abbrev none : Option Name
none = None

abbrev some_name_step : Token → Step (Option Name)
some_name_step (token.Name text) = taken (Some text)
some_name_step (token.Mark k) = kept none
some_name_step (token.Whole n) = kept none
some_name_step (token.Time n) = kept none

name_if-is : (ts : Tokens) → name_if ts ≡ stepped (kept none) some_name_step ts
unfolding name_if
name_if-is [] = refl
name_if-is (token.Name text ∷ ts) = refl
name_if-is (token.Mark k ∷ ts) = refl
name_if-is (token.Whole n ∷ ts) = refl
name_if-is (token.Time n ∷ ts) = refl

pub local-name_if : Local name_if
local-name_if = local-as name_if (stepped (kept none) some_name_step) name_if-is (local-step (kept none) some_name_step)

abbrev word_step : Name → Token → Step (Unit {0})
word_step text (token.Name found) = tested (bytes_eq found text) tt
word_step text (token.Mark k) = denied
word_step text (token.Whole n) = denied
word_step text (token.Time n) = denied

word-is : (text : Name) (ts : Tokens) → word text ts ≡ stepped denied (word_step text) ts
unfolding word
word-is text [] = refl
word-is text (token.Name found ∷ ts) = tested-by (bytes_eq found text) tt (token.Name found) ts
word-is text (token.Mark k ∷ ts) = refl
word-is text (token.Whole n ∷ ts) = refl
word-is text (token.Time n ∷ ts) = refl

pub local-word : (text : Name) → Local (word text)
local-word text = local-as (word text) (stepped denied (word_step text)) (word-is text) (local-step denied (word_step text))

abbrev type_step : Option Ty → Step Ty
type_step (Some t) = taken t
type_step None = denied

abbrev ty_step : Token → Step Ty
ty_step (token.Mark k) = type_step (ty_of k)
ty_step (token.Name text) = denied
ty_step (token.Whole n) = denied
ty_step (token.Time n) = denied

typed-is : (o : Option Ty) (t : Token) (ts : Tokens) → typed o t ts ≡ on (type_step o) t ts
typed-is (Some x) t ts = refl
typed-is None t ts = refl

ty_name-is : (ts : Tokens) → ty_name ts ≡ stepped denied ty_step ts
unfolding ty_name
ty_name-is [] = refl
ty_name-is (token.Mark k ∷ ts) = typed-is (ty_of k) (token.Mark k) ts
ty_name-is (token.Name text ∷ ts) = refl
ty_name-is (token.Whole n ∷ ts) = refl
ty_name-is (token.Time n ∷ ts) = refl

pub local-ty_name : Local ty_name
local-ty_name = local-as ty_name (stepped denied ty_step) ty_name-is (local-step denied ty_step)

abbrev whole_step : Token → Step ℕ
whole_step (token.Whole n) = taken n
whole_step (token.Mark k) = denied
whole_step (token.Name text) = denied
whole_step (token.Time n) = denied

whole-is : (ts : Tokens) → whole ts ≡ stepped denied whole_step ts
unfolding whole
whole-is [] = refl
whole-is (token.Whole n ∷ ts) = refl
whole-is (token.Mark k ∷ ts) = refl
whole-is (token.Name text ∷ ts) = refl
whole-is (token.Time n ∷ ts) = refl

pub local-whole : Local whole
local-whole = local-as whole (stepped denied whole_step) whole-is (local-step denied whole_step)

abbrev one_step : Token → Step (Unit {0})
one_step (token.Whole n) = tested (eqb n 1) tt
one_step (token.Mark k) = denied
one_step (token.Name text) = denied
one_step (token.Time n) = denied

one-is : (ts : Tokens) → one ts ≡ stepped denied one_step ts
unfolding one
one-is [] = refl
one-is (token.Whole n ∷ ts) = tested-by (eqb n 1) tt (token.Whole n) ts
one-is (token.Mark k ∷ ts) = refl
one-is (token.Name text ∷ ts) = refl
one-is (token.Time n ∷ ts) = refl

pub local-one : Local one
local-one = local-as one (stepped denied one_step) one-is (local-step denied one_step)

abbrev literal_step : Token → Step ℤ
literal_step (token.Whole n) = taken (pos n)
literal_step (token.Time n) = taken n
literal_step (token.Mark k) = denied
literal_step (token.Name text) = denied

literal-is : (ts : Tokens) → literal ts ≡ stepped denied literal_step ts
unfolding literal
literal-is [] = refl
literal-is (token.Whole n ∷ ts) = refl
literal-is (token.Time n ∷ ts) = refl
literal-is (token.Mark k ∷ ts) = refl
literal-is (token.Name text ∷ ts) = refl

pub local-literal : Local literal
local-literal = local-as literal (stepped denied literal_step) literal-is (local-step denied literal_step)

-- ---- iterations of a loop

-- what is read takes a token
abbrev pub Advances : {A : Type 0} → Parser A → Type 0
Advances {A = A} p = (ts rest : Tokens) (x : A) → p ts ≡ Ok (x, rest) → length rest < length ts

-- a rule by a number of iterations, which does not matter once there are as many as tokens
pub local-turns : {A : Type 0} (p : ℕ → Parser A) → ((n : ℕ) → Local (p n)) → ((n m : ℕ) (ts : Tokens) → length ts ≤ n → length ts ≤ m → p n ts ≡ p m ts)
    → Local (λ ts. p (length ts) ts)
local-turns {A = A} p l fuel = record {
  looks = record {
    left = λ ts rest x h. (l (length ts)).looks.left ts rest x h;
    stuck = λ ts rest h. (l (length ts)).looks.stuck ts rest h;
    same = λ before mid following more t x h.
        let a : Tokens = before ++ t ∷ following in
        let b : Tokens = before ++ t ∷ more in
        let n : ℕ = length a + length b in
        let there : p n a ≡ Ok (x, mid ++ t ∷ following) = fuel n (length a) a (omega arith) (omega arith) ∙ h in
        fuel (length b) n b (omega arith) (omega arith) ∙ (l n).looks.same before mid following more t x there;
    refused = λ before mid following more t h.
        let a : Tokens = before ++ t ∷ following in
        let b : Tokens = before ++ t ∷ more in
        let n : ℕ = length a + length b in
        let there : p n a ≡ Err (syntax (mid ++ t ∷ following)) = fuel n (length a) a (omega arith) (omega arith) ∙ h in
        fuel (length b) n b (omega arith) (omega arith) ∙ (l n).looks.refused before mid following more t there;
  };
  deep = λ ts more h.
      let all : Tokens = ts ++ more in
      let longer : length ts ≤ length all = omega (arith, length-append ts more) in
      let there : p (length all) ts ≡ Err too_deep = fuel (length all) (length ts) ts longer (omega arith) ∙ h in
      (l (length all)).deep ts more there;
  flat = λ h. (l 0).flat h;
}

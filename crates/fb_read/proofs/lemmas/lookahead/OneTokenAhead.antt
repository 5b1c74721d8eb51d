-- A rule looks one token ahead: what it does up to a token does not depend on what follows that token.
use Rattle.fb_read.proofs.lemmas.Common.{◌≡◌, ◌≤◌, Bool, true, false, cond, [], ◌∷◌, ◌++◌, length, Ok, Err, refl, sym, ap, subst, ◌∙◌, append_assoc, arith, length-append, Token, Tokens, Outcome, Parser, RuleFault, syntax, too_deep, and_then, ◌>>=◌, pure, refuse}
use Rattle.std.proofs.lemmas.List.{append_cancel_right, nil_from_length}
use Rattle.fb_read.proofs.lemmas.rules.Steps.{pair_is}

-- the second list is an end of the first
pub record IsLeft (rest ts : Tokens) : Type 0 where
  pub before : Tokens
  pub joined : before ++ rest ≡ ts

pub left-all : (ts : Tokens) → IsLeft ts ts
left-all ts = record { before = []; joined = refl }

pub left-more : (t : Token) (rest ts : Tokens) → IsLeft rest ts → IsLeft rest (t ∷ ts)
left-more t rest ts w = record { before = t ∷ w.before; joined = ap (λ (us : Tokens). t ∷ us) w.joined }

pub left-left : (a b c : Tokens) → IsLeft a b → IsLeft b c → IsLeft a c
left-left a b c v w = record { before = w.before ++ v.before; joined = append_assoc w.before v.before a ∙ ap (λ (us : Tokens). w.before ++ us) v.joined ∙ w.joined }

pub left-length : (rest ts : Tokens) → IsLeft rest ts → length rest ≤ length ts
left-length rest ts w = let e = ap (λ (us : Tokens). length us) w.joined in let l = length-append w.before rest in omega arith

-- what is left is an end of what was given, and other tokens may follow the first one of it
pub record Looks {A : Type 0} (p : Parser A) : Type 0 where
  pub left : (ts rest : Tokens) (x : A) → p ts ≡ Ok (x, rest) → IsLeft rest ts
  pub stuck : (ts rest : Tokens) → p ts ≡ Err (syntax rest) → IsLeft rest ts
  pub same : (before mid following more : Tokens) (t : Token) (x : A) → p (before ++ t ∷ following) ≡ Ok (x, mid ++ t ∷ following) → p (before ++ t ∷ more) ≡ Ok (x, mid ++ t ∷ more)
  pub refused : (before mid following more : Tokens) (t : Token) → p (before ++ t ∷ following) ≡ Err (syntax (mid ++ t ∷ following)) → p (before ++ t ∷ more) ≡ Err (syntax (mid ++ t ∷ more))

-- what is refused for its nesting is, whatever follows
abbrev pub Deepens : {A : Type 0} → Parser A → Type 0
Deepens p = (ts more : Tokens) → p ts ≡ Err too_deep → p (ts ++ more) ≡ Err too_deep

-- nothing nests too deep before a token
abbrev pub IsFlat : {A : Type 0} → Parser A → Type 0
IsFlat p = p [] ≡ Err too_deep → ⊥

-- a rule that looks one token ahead
pub record Local {A : Type 0} (p : Parser A) : Type 0 where
  pub looks : Looks p
  pub deep : Deepens p
  pub flat : IsFlat p

-- a rule of a part that may nest too deep, whatever it begins with
pub record Nests {A : Type 0} (p : Parser A) : Type 0 where
  pub looks : Looks p
  pub deep : Deepens p

pub nests-of : {A : Type 0} {p : Parser A} → Local p → Nests p
nests-of l = record { looks = l.looks; deep = l.deep }

-- ---- one rule after another

abbrev done : {A : Type 0} → A → Tokens → Outcome A
done x ts = Ok (x, ts)

abbrev failed : {A : Type 0} → Tokens → Outcome A
failed ts = Err (syntax ts)

-- what was read, or why nothing was
pub data Shape {A : Type 0} (o : Outcome A) : Type 0 where
  is_read : (x : A) (rest : Tokens) → o ≡ Ok (x, rest) → Shape o
  is_stuck : (rest : Tokens) → o ≡ Err (syntax rest) → Shape o
  is_deep : o ≡ Err too_deep → Shape o

pub shape : {A : Type 0} (o : Outcome A) → Shape o
shape (Ok p) = is_read p.0 p.1 refl
shape (Err (syntax rest)) = is_stuck rest refl
shape (Err too_deep) = is_deep refl

stuck-is : {B : Type 0} (rest other : Tokens) → failed {A = B} rest ≡ failed other → rest ≡ other
stuck-is rest other e = cc

not-read : {B : Type 0} (f : RuleFault) (y : B × Tokens) (o : Outcome B) → o ≡ Err f → o ≡ Ok y → ⊥
not-read f y o h k = cc

not-deep : {B : Type 0} (rest : Tokens) (o : Outcome B) → o ≡ Err too_deep → o ≡ Err (syntax rest) → ⊥
not-deep rest o h k = cc

pub looks-bind : {A B : Type 0} (p : Parser A) (f : A → Parser B) → Looks p → ((x : A) → Looks (f x)) → Looks (p >>= f)
looks-bind {A = A} {B = B} p f l m = record {
  left = λ ts rest y h. left-of ts rest y h (shape (p ts));
  stuck = λ ts rest h. stuck-of ts rest h (shape (p ts));
  same = λ before mid following more t y h. same-of before mid following more t y h (shape (p (before ++ t ∷ following)));
  refused = λ before mid following more t h. refused-of before mid following more t h (shape (p (before ++ t ∷ following)));
}
  where
    left-of : (ts rest : Tokens) (y : B) → and_then (p ts) f ≡ Ok (y, rest) → Shape (p ts) → IsLeft rest ts
    left-of ts rest y h (is_read x r e) = left-left rest r ts ((m x).left r rest y (sym (ap (λ (o : Outcome A). and_then o f) e) ∙ h)) (l.left ts r x e)
    left-of ts rest y h (is_stuck r e) = absurd (not-read (syntax r) (y, rest) (and_then (p ts) f) (ap (λ (o : Outcome A). and_then o f) e) h)
    left-of ts rest y h (is_deep e) = absurd (not-read too_deep (y, rest) (and_then (p ts) f) (ap (λ (o : Outcome A). and_then o f) e) h)

    stuck-of : (ts rest : Tokens) → and_then (p ts) f ≡ Err (syntax rest) → Shape (p ts) → IsLeft rest ts
    stuck-of ts rest h (is_read x r e) = left-left rest r ts ((m x).stuck r rest (sym (ap (λ (o : Outcome A). and_then o f) e) ∙ h)) (l.left ts r x e)
    stuck-of ts rest h (is_stuck r e) =
        let same : r ≡ rest = stuck-is {B = B} r rest (sym (ap (λ (o : Outcome A). and_then o f) e) ∙ h) in
        subst (λ (us : Tokens). IsLeft us ts) same (l.stuck ts r e)
    stuck-of ts rest h (is_deep e) = absurd (not-deep rest (and_then (p ts) f) (ap (λ (o : Outcome A). and_then o f) e) h)

    -- after the first rule, its rest in place of the whole
    goes-on : (before mid following more : Tokens) (t : Token) (x : A) (r : Tokens) → p (before ++ t ∷ following) ≡ Ok (x, r) → IsLeft (mid ++ t ∷ following) r
        → (a : Tokens) × (r ≡ a ++ (mid ++ t ∷ following)) × (p (before ++ t ∷ more) ≡ Ok (x, (a ++ mid) ++ t ∷ more))
    goes-on before mid following more t x r e w = (
      w.before,
      sym w.joined,
      l.same before (w.before ++ mid) following more t x (e ∙ ap (λ (us : Tokens). done x us) (sym w.joined ∙ sym (append_assoc w.before mid (t ∷ following)))),
    )

    same-of : (before mid following more : Tokens) (t : Token) (y : B) → and_then (p (before ++ t ∷ following)) f ≡ Ok (y, mid ++ t ∷ following) → Shape (p (before ++ t ∷ following))
        → and_then (p (before ++ t ∷ more)) f ≡ Ok (y, mid ++ t ∷ more)
    same-of before mid following more t y h (is_read x r e) =
        let g = sym (ap (λ (o : Outcome A). and_then o f) e) ∙ h in
        let w = goes-on before mid following more t x r e ((m x).left r (mid ++ t ∷ following) y g) in
        let there : f x ((w.0 ++ mid) ++ t ∷ following) ≡ Ok (y, mid ++ t ∷ following) = ap (λ (us : Tokens). f x us) (append_assoc w.0 mid (t ∷ following) ∙ sym w.1) ∙ g in
        ap (λ (o : Outcome A). and_then o f) w.2 ∙ (m x).same (w.0 ++ mid) mid following more t y there
    same-of before mid following more t y h (is_stuck r e) = absurd (not-read (syntax r) (y, mid ++ t ∷ following) (and_then (p (before ++ t ∷ following)) f) (ap (λ (o : Outcome A). and_then o f) e) h)
    same-of before mid following more t y h (is_deep e) = absurd (not-read too_deep (y, mid ++ t ∷ following) (and_then (p (before ++ t ∷ following)) f) (ap (λ (o : Outcome A). and_then o f) e) h)

    refused-of : (before mid following more : Tokens) (t : Token) → and_then (p (before ++ t ∷ following)) f ≡ Err (syntax (mid ++ t ∷ following)) → Shape (p (before ++ t ∷ following))
        → and_then (p (before ++ t ∷ more)) f ≡ Err (syntax (mid ++ t ∷ more))
    refused-of before mid following more t h (is_read x r e) =
        let g = sym (ap (λ (o : Outcome A). and_then o f) e) ∙ h in
        let w = goes-on before mid following more t x r e ((m x).stuck r (mid ++ t ∷ following) g) in
        let there : f x ((w.0 ++ mid) ++ t ∷ following) ≡ Err (syntax (mid ++ t ∷ following)) = ap (λ (us : Tokens). f x us) (append_assoc w.0 mid (t ∷ following) ∙ sym w.1) ∙ g in
        ap (λ (o : Outcome A). and_then o f) w.2 ∙ (m x).refused (w.0 ++ mid) mid following more t there
    refused-of before mid following more t h (is_stuck r e) =
        let same : r ≡ mid ++ t ∷ following = stuck-is {B = B} r (mid ++ t ∷ following) (sym (ap (λ (o : Outcome A). and_then o f) e) ∙ h) in
        ap (λ (o : Outcome A). and_then o f) (l.refused before mid following more t (e ∙ ap (λ (us : Tokens). failed us) same))
    refused-of before mid following more t h (is_deep e) = absurd (not-deep (mid ++ t ∷ following) (and_then (p (before ++ t ∷ following)) f) (ap (λ (o : Outcome A). and_then o f) e) h)

-- what is left of nothing
none-left : (rest : Tokens) → IsLeft rest [] → rest ≡ []
none-left rest w = nil_from_length rest (omega (arith, left-length rest [] w))

-- What is read after a rule may nest too deep only after a token, if it is read after this rule.
deepens-bind : {A B : Type 0} (p : Parser A) (f : A → Parser B) → Looks p → Deepens p → ((x : A) (ts rest : Tokens) → p ts ≡ Ok (x, rest) → Deepens (f x) × IsFlat (f x)) → Deepens (p >>= f)
deepens-bind {A = A} {B = B} p f l deep m ts more h = go (shape (p ts))
  where
    after : (x : A) (rest : Tokens) → p ts ≡ Ok (x, rest) → f x rest ≡ Err too_deep → and_then (p (ts ++ more)) f ≡ Err too_deep
    after x [] e g = absurd ((m x ts [] e).1 g)
    after x (t ∷ rest) e g =
        let w = l.left ts (t ∷ rest) x e in
        let there : p (w.before ++ t ∷ rest) ≡ Ok (x, t ∷ rest) = ap (λ (us : Tokens). p us) w.joined ∙ e in
        let whole : ts ++ more ≡ w.before ++ t ∷ (rest ++ more) = ap (λ (us : Tokens). us ++ more) (sym w.joined) ∙ append_assoc w.before (t ∷ rest) more in
        ap (λ (us : Tokens). and_then (p us) f) whole ∙ ap (λ (o : Outcome A). and_then o f) (l.same w.before [] rest (rest ++ more) t x there) ∙ (m x ts (t ∷ rest) e).0 (t ∷ rest) more g

    go : Shape (p ts) → and_then (p (ts ++ more)) f ≡ Err too_deep
    go (is_read x rest e) = after x rest e (sym (ap (λ (o : Outcome A). and_then o f) e) ∙ h)
    go (is_stuck rest e) = absurd (not-deep rest (and_then (p ts) f) h (ap (λ (o : Outcome A). and_then o f) e))
    go (is_deep e) = ap (λ (o : Outcome A). and_then o f) (deep ts more e)

pub flat-bind : {A B : Type 0} (p : Parser A) (f : A → Parser B) → Looks p → IsFlat p → ((x : A) → IsFlat (f x)) → IsFlat (p >>= f)
flat-bind {A = A} p f l flat m h = go (shape (p []))
  where
    go : Shape (p []) → ⊥
    go (is_read x rest e) =
        let none = none-left rest (l.left [] rest x e) in
        m x (ap (λ (us : Tokens). f x us) (sym none) ∙ sym (ap (λ (o : Outcome A). and_then o f) e) ∙ h)
    go (is_stuck rest e) = not-deep rest (and_then (p []) f) h (ap (λ (o : Outcome A). and_then o f) e)
    go (is_deep e) = flat e

pub local-bind : {A B : Type 0} (p : Parser A) (f : A → Parser B) → Local p → ((x : A) → Local (f x)) → Local (p >>= f)
local-bind p f l m = record {
  looks = looks-bind p f l.looks (λ x. (m x).looks);
  deep = deepens-bind p f l.looks l.deep (λ x ts rest e. ((m x).deep, (m x).flat));
  flat = flat-bind p f l.looks l.flat (λ x. (m x).flat);
}

-- the same after a part
pub nests-bind : {A B : Type 0} (p : Parser A) (f : A → Parser B) → Nests p → ((x : A) → Nests (f x)) → ((x : A) (ts rest : Tokens) → p ts ≡ Ok (x, rest) → IsFlat (f x)) → Nests (p >>= f)
nests-bind p f l m flat = record {
  looks = looks-bind p f l.looks (λ x. (m x).looks);
  deep = deepens-bind p f l.looks l.deep (λ x ts rest e. ((m x).deep, flat x ts rest e));
}

-- ---- rules of one token

-- what is made of the next token: it is taken, left or refused
pub data Step (A : Type 0) : Type 0 where
  taken : A → Step A
  kept : A → Step A
  denied : Step A

abbrev pub at_end : {A : Type 0} → Step A → Outcome A
at_end (taken x) = Ok (x, [])
at_end (kept x) = Ok (x, [])
at_end denied = Err (syntax [])

abbrev pub on : {A : Type 0} → Step A → Token → Tokens → Outcome A
on (taken x) t ts = Ok (x, ts)
on (kept x) t ts = Ok (x, t ∷ ts)
on denied t ts = Err (syntax (t ∷ ts))

abbrev pub stepped : {A : Type 0} → Step A → (Token → Step A) → Parser A
stepped e f [] = at_end e
stepped e f (t ∷ ts) = on (f t) t ts

value-is : {A : Type 0} (x y : A) (ts us : Tokens) → done x ts ≡ done y us → x ≡ y
value-is {A = A} x y ts us e = ap (λ (p : A × Tokens). p.0) (pair_is (x, ts) (y, us) e)

rest-is : {A : Type 0} (x y : A) (ts us : Tokens) → done x ts ≡ done y us → ts ≡ us
rest-is {A = A} x y ts us e = ap (λ (p : A × Tokens). p.1) (pair_is (x, ts) (y, us) e)

no-done : {A : Type 0} (x : A) (ts us : Tokens) → done x ts ≡ failed us → ⊥
no-done x ts us e = cc

other-tail : (a mid following more : Tokens) (t : Token) → a ++ t ∷ following ≡ mid ++ t ∷ following → a ++ t ∷ more ≡ mid ++ t ∷ more
other-tail a mid following more t e = ap (λ (us : Tokens). us ++ t ∷ more) (append_cancel_right a mid (t ∷ following) e)

keep : {A : Type 0} (x y : A) (a mid following more : Tokens) (t : Token) → done x (a ++ t ∷ following) ≡ done y (mid ++ t ∷ following) → done x (a ++ t ∷ more) ≡ done y (mid ++ t ∷ more)
keep x y a mid following more t e =
    let same = value-is x y (a ++ t ∷ following) (mid ++ t ∷ following) e in
    let tail = other-tail a mid following more t (rest-is x y (a ++ t ∷ following) (mid ++ t ∷ following) e) in
    rw (same, tail) refl

keep-failed : {A : Type 0} (a mid following more : Tokens) (t : Token) → failed {A = A} (a ++ t ∷ following) ≡ failed (mid ++ t ∷ following) → failed {A = A} (a ++ t ∷ more) ≡ failed (mid ++ t ∷ more)
keep-failed {A = A} a mid following more t e = ap (λ (us : Tokens). failed {A = A} us) (other-tail a mid following more t (stuck-is {B = A} (a ++ t ∷ following) (mid ++ t ∷ following) e))

-- a list is not longer than itself
no-shorter : (mid following : Tokens) (t : Token) → following ≡ mid ++ t ∷ following → ⊥
no-shorter mid following t e = let l = ap (λ (us : Tokens). length us) e in let m = length-append mid (t ∷ following) in omega arith

looks-step : {A : Type 0} (e : Step A) (f : Token → Step A) → Looks (stepped e f)
looks-step {A = A} e f = record {
  left = λ ts rest x h. left-of ts rest x h;
  stuck = λ ts rest h. stuck-of ts rest h;
  same = λ before mid following more t x h. same-of before mid following more t x h;
  refused = λ before mid following more t h. refused-of before mid following more t h;
}
  where
    left-end : (s : Step A) (rest : Tokens) (x : A) → at_end s ≡ Ok (x, rest) → IsLeft rest []
    left-end (taken y) rest x h = subst (λ (us : Tokens). IsLeft us []) (rest-is y x [] rest h) (left-all [])
    left-end (kept y) rest x h = subst (λ (us : Tokens). IsLeft us []) (rest-is y x [] rest h) (left-all [])
    left-end denied rest x h = absurd (no-done x rest [] (sym h))

    left-on : (s : Step A) (t : Token) (ts rest : Tokens) (x : A) → on s t ts ≡ Ok (x, rest) → IsLeft rest (t ∷ ts)
    left-on (taken y) t ts rest x h = subst (λ (us : Tokens). IsLeft us (t ∷ ts)) (rest-is y x ts rest h) (left-more t ts ts (left-all ts))
    left-on (kept y) t ts rest x h = subst (λ (us : Tokens). IsLeft us (t ∷ ts)) (rest-is y x (t ∷ ts) rest h) (left-all (t ∷ ts))
    left-on denied t ts rest x h = absurd (no-done x rest (t ∷ ts) (sym h))

    left-of : (ts rest : Tokens) (x : A) → stepped e f ts ≡ Ok (x, rest) → IsLeft rest ts
    left-of [] rest x h = left-end e rest x h
    left-of (t ∷ ts) rest x h = left-on (f t) t ts rest x h

    stuck-end : (s : Step A) (rest : Tokens) → at_end s ≡ Err (syntax rest) → IsLeft rest []
    stuck-end (taken y) rest h = absurd (no-done y [] rest h)
    stuck-end (kept y) rest h = absurd (no-done y [] rest h)
    stuck-end denied rest h = subst (λ (us : Tokens). IsLeft us []) (stuck-is {B = A} [] rest h) (left-all [])

    stuck-on : (s : Step A) (t : Token) (ts rest : Tokens) → on s t ts ≡ Err (syntax rest) → IsLeft rest (t ∷ ts)
    stuck-on (taken y) t ts rest h = absurd (no-done y ts rest h)
    stuck-on (kept y) t ts rest h = absurd (no-done y (t ∷ ts) rest h)
    stuck-on denied t ts rest h = subst (λ (us : Tokens). IsLeft us (t ∷ ts)) (stuck-is {B = A} (t ∷ ts) rest h) (left-all (t ∷ ts))

    stuck-of : (ts rest : Tokens) → stepped e f ts ≡ Err (syntax rest) → IsLeft rest ts
    stuck-of [] rest h = stuck-end e rest h
    stuck-of (t ∷ ts) rest h = stuck-on (f t) t ts rest h

    same-first : (s : Step A) (mid following more : Tokens) (t : Token) (x : A) → on s t following ≡ Ok (x, mid ++ t ∷ following) → on s t more ≡ Ok (x, mid ++ t ∷ more)
    same-first (taken y) mid following more t x h = absurd (no-shorter mid following t (rest-is y x following (mid ++ t ∷ following) h))
    same-first (kept y) mid following more t x h = keep y x [] mid following more t h
    same-first denied mid following more t x h = absurd (no-done x (mid ++ t ∷ following) (t ∷ following) (sym h))

    same-later : (s : Step A) (u : Token) (b mid following more : Tokens) (t : Token) (x : A) → on s u (b ++ t ∷ following) ≡ Ok (x, mid ++ t ∷ following) → on s u (b ++ t ∷ more) ≡ Ok (x, mid ++ t ∷ more)
    same-later (taken y) u b mid following more t x h = keep y x b mid following more t h
    same-later (kept y) u b mid following more t x h = keep y x (u ∷ b) mid following more t h
    same-later denied u b mid following more t x h = absurd (no-done x (mid ++ t ∷ following) (u ∷ (b ++ t ∷ following)) (sym h))

    same-of : (before mid following more : Tokens) (t : Token) (x : A) → stepped e f (before ++ t ∷ following) ≡ Ok (x, mid ++ t ∷ following) → stepped e f (before ++ t ∷ more) ≡ Ok (x, mid ++ t ∷ more)
    same-of [] mid following more t x h = same-first (f t) mid following more t x h
    same-of (u ∷ b) mid following more t x h = same-later (f u) u b mid following more t x h

    refused-first : (s : Step A) (mid following more : Tokens) (t : Token) → on s t following ≡ Err (syntax (mid ++ t ∷ following)) → on s t more ≡ Err (syntax (mid ++ t ∷ more))
    refused-first (taken y) mid following more t h = absurd (no-done y following (mid ++ t ∷ following) h)
    refused-first (kept y) mid following more t h = absurd (no-done y (t ∷ following) (mid ++ t ∷ following) h)
    refused-first denied mid following more t h = keep-failed {A = A} [] mid following more t h

    refused-later : (s : Step A) (u : Token) (b mid following more : Tokens) (t : Token) → on s u (b ++ t ∷ following) ≡ Err (syntax (mid ++ t ∷ following)) → on s u (b ++ t ∷ more) ≡ Err (syntax (mid ++ t ∷ more))
    refused-later (taken y) u b mid following more t h = absurd (no-done y (b ++ t ∷ following) (mid ++ t ∷ following) h)
    refused-later (kept y) u b mid following more t h = absurd (no-done y (u ∷ (b ++ t ∷ following)) (mid ++ t ∷ following) h)
    refused-later denied u b mid following more t h = keep-failed {A = A} (u ∷ b) mid following more t h

    refused-of : (before mid following more : Tokens) (t : Token) → stepped e f (before ++ t ∷ following) ≡ Err (syntax (mid ++ t ∷ following)) → stepped e f (before ++ t ∷ more) ≡ Err (syntax (mid ++ t ∷ more))
    refused-of [] mid following more t h = refused-first (f t) mid following more t h
    refused-of (u ∷ b) mid following more t h = refused-later (f u) u b mid following more t h

-- one token does not nest
no-step : {A : Type 0} (e : Step A) (f : Token → Step A) (ts : Tokens) → stepped e f ts ≡ Err too_deep → ⊥
no-step {A = A} e f [] h = end e h
  where
    end : (s : Step A) → at_end s ≡ Err too_deep → ⊥
    end (taken x) h = cc
    end (kept x) h = cc
    end denied h = cc
no-step {A = A} e f (t ∷ ts) h = go (f t) h
  where
    go : (s : Step A) → on s t ts ≡ Err too_deep → ⊥
    go (taken x) h = cc
    go (kept x) h = cc
    go denied h = cc

pub local-step : {A : Type 0} (e : Step A) (f : Token → Step A) → Local (stepped e f)
local-step e f = record { looks = looks-step e f; deep = λ ts more h. absurd (no-step e f ts h); flat = λ h. no-step e f [] h }

-- a rule that does the same everywhere
pub looks-as : {A : Type 0} (p q : Parser A) → ((ts : Tokens) → p ts ≡ q ts) → Looks q → Looks p
looks-as p q e l = record {
  left = λ ts rest x h. l.left ts rest x (sym (e ts) ∙ h);
  stuck = λ ts rest h. l.stuck ts rest (sym (e ts) ∙ h);
  same = λ before mid following more t x h. e (before ++ t ∷ more) ∙ l.same before mid following more t x (sym (e (before ++ t ∷ following)) ∙ h);
  refused = λ before mid following more t h. e (before ++ t ∷ more) ∙ l.refused before mid following more t (sym (e (before ++ t ∷ following)) ∙ h);
}

pub local-as : {A : Type 0} (p q : Parser A) → ((ts : Tokens) → p ts ≡ q ts) → Local q → Local p
local-as p q e l = record { looks = looks-as p q e l.looks; deep = λ ts more h. e (ts ++ more) ∙ l.deep ts more (sym (e ts) ∙ h); flat = λ h. l.flat (sym (e []) ∙ h) }

pub local-pure : {A : Type 0} (x : A) → Local (pure x)
local-pure x = local-as (pure x) (stepped (kept x) (λ t. kept x)) go (local-step (kept x) (λ t. kept x))
  where
    go : (ts : Tokens) → pure x ts ≡ stepped (kept x) (λ t. kept x) ts
    go [] = refl
    go (t ∷ ts) = refl

pub local-refuse : {A : Type 0} → Local (refuse {A = A})
local-refuse {A = A} = local-as refuse (stepped denied (λ t. denied)) go (local-step denied (λ t. denied))
  where
    go : (ts : Tokens) → refuse {A = A} ts ≡ stepped denied (λ t. denied) ts
    go [] = refl
    go (t ∷ ts) = refl

pub nests-deep : {A : Type 0} → Nests {A = A} (λ ts. Err too_deep)
nests-deep {A = A} = record {
  looks = record {
    left = λ ts rest x h. absurd (deep-read x rest h);
    stuck = λ ts rest h. absurd (deep-stuck rest h);
    same = λ before mid following more t x h. absurd (deep-read x (mid ++ t ∷ following) h);
    refused = λ before mid following more t h. absurd (deep-stuck (mid ++ t ∷ following) h);
  };
  deep = λ ts more h. refl;
}
  where
    deep-read : (x : A) (rest : Tokens) → Err too_deep ≡ done x rest → ⊥
    deep-read x rest e = cc

    deep-stuck : (rest : Tokens) → Err too_deep ≡ failed {A = A} rest → ⊥
    deep-stuck rest e = cc

-- a test of the next token alone
abbrev pub HeadOnly : {X : Type 0} → (Tokens → X) → Type 0
HeadOnly g = (t : Token) (ts : Tokens) → g (t ∷ ts) ≡ g (t ∷ [])

abbrev pub peek : {X : Type 0} → (Tokens → X) → Parser X
peek g = λ ts. Ok (g ts, ts)

pub local-peek : {X : Type 0} (g : Tokens → X) → HeadOnly g → Local (peek g)
local-peek g only = local-as (peek g) (stepped (kept (g [])) (λ t. kept (g (t ∷ [])))) go (local-step (kept (g [])) (λ t. kept (g (t ∷ []))))
  where
    go : (ts : Tokens) → peek g ts ≡ stepped (kept (g [])) (λ t. kept (g (t ∷ []))) ts
    go [] = refl
    go (t ∷ ts) = ap (λ x. done x (t ∷ ts)) (only t ts)

pub local-cond : {A : Type 0} (b : Bool) (p q : Parser A) → Local p → Local q → Local (cond b p q)
local-cond true p q l m = l
local-cond false p q l m = m

cond-of : {A : Type 0} (b : Bool) (p q : Parser A) (ts : Tokens) → cond b (p ts) (q ts) ≡ (cond b p q) ts
cond-of true p q ts = refl
cond-of false p q ts = refl

pub looks-cond : {A : Type 0} (b : Bool) (p q : Parser A) → Looks p → Looks q → Looks (cond b p q)
looks-cond true p q l m = l
looks-cond false p q l m = m

looks-if : {A : Type 0} (test : Tokens → Bool) (p q : Parser A) → HeadOnly test → Looks p → Looks q → Looks (λ ts. cond (test ts) (p ts) (q ts))
looks-if test p q only l m =
    looks-as (λ ts. cond (test ts) (p ts) (q ts)) (peek test >>= (λ b. cond b p q)) (λ ts. cond-of (test ts) p q ts) (looks-bind (peek test) (λ b. cond b p q) (local-peek test only).looks (λ b. looks-cond b p q l m))

-- a test of the next token alone stays as it is
head-same : {X : Type 0} (g : Tokens → X) → HeadOnly g → (t : Token) (ts more : Tokens) → g (t ∷ (ts ++ more)) ≡ g (t ∷ ts)
head-same g only t ts more = only t (ts ++ more) ∙ sym (only t ts)

-- A rule chosen by a test of the next token. The first may be one of a part, if the test needs a token.
pub local-if-nests : {A : Type 0} (test : Tokens → Bool) (p q : Parser A) → HeadOnly test → test [] ≡ false → Nests p → Local q → Local (λ ts. cond (test ts) (p ts) (q ts))
local-if-nests {A = A} test p q only none l m = record {
  looks = looks-if test p q only l.looks m.looks;
  deep = deep-of;
  flat = λ h. m.flat (sym (ap (λ (b : Bool). cond b (p []) (q [])) none) ∙ h);
}
  where
    chosen : (b : Bool) (us more : Tokens) → cond b (p us) (q us) ≡ Err too_deep → cond b (p (us ++ more)) (q (us ++ more)) ≡ Err too_deep
    chosen true us more h = l.deep us more h
    chosen false us more h = m.deep us more h

    deep-of : (ts more : Tokens) → cond (test ts) (p ts) (q ts) ≡ Err too_deep → cond (test (ts ++ more)) (p (ts ++ more)) (q (ts ++ more)) ≡ Err too_deep
    deep-of [] more h = absurd (m.flat (sym (ap (λ (b : Bool). cond b (p []) (q [])) none) ∙ h))
    deep-of (t ∷ ts) more h =
        ap (λ (b : Bool). cond b (p (t ∷ (ts ++ more))) (q (t ∷ (ts ++ more)))) (head-same test only t ts more) ∙ chosen (test (t ∷ ts)) (t ∷ ts) more h

-- a rule chosen by a test of the next token
pub local-if : {A : Type 0} (test : Tokens → Bool) (p q : Parser A) → HeadOnly test → Local p → Local q → Local (λ ts. cond (test ts) (p ts) (q ts))
local-if test p q only l m =
    local-as (λ ts. cond (test ts) (p ts) (q ts)) (peek test >>= (λ b. cond b p q)) (λ ts. cond-of (test ts) p q ts) (local-bind (peek test) (λ b. cond b p q) (local-peek test only) (λ b. local-cond b p q l m))

-- what is made of the next token by a test that it alone decides, if at the end of the tokens nothing is
pub local-by : {X A : Type 0} (g : Tokens → X) (f : X → Parser A) → HeadOnly g → ((x : X) → Nests (f x)) → IsFlat (f (g [])) → Local (λ ts. f (g ts) ts)
local-by g f only l flat = record {
  looks = looks-as (λ ts. f (g ts) ts) (peek g >>= f) (λ ts. refl) (looks-bind (peek g) f (local-peek g only).looks (λ x. (l x).looks));
  deep = deep-of;
  flat = flat;
}
  where
    deep-of : (ts more : Tokens) → f (g ts) ts ≡ Err too_deep → f (g (ts ++ more)) (ts ++ more) ≡ Err too_deep
    deep-of [] more h = absurd (flat h)
    deep-of (t ∷ ts) more h = ap (λ x. f x (t ∷ (ts ++ more))) (head-same g only t ts more) ∙ (l (g (t ∷ ts))).deep (t ∷ ts) more h

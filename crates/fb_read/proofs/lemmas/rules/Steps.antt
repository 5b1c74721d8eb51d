-- The steps of a parser: what was read is what the grammar says.
use Rattle.fb_read.proofs.lemmas.Common.{◌≡◌, ℕ, ℤ, pos, ◌<◌, Bool, true, false, cond, eqb, [], ◌∷◌, length, Option, Some, None, Ok, Err, refl, ap, subst, inl, inr, arith, rules, bytes_eq, eq-eqb, eqb-true, Name, Mark, Tokens, Parser, Outcome, syntax, and_then, same_mark, sees, rest_of, after, expect, name, ty_name, word, whole, one, literal, IsMark, is_mark, IsName, is_name, is_whole, is_time}
use Rattle.fb_types.proofs.Common.{◌⊎◌, bytes_eq-Decides}
use Rattle.fb_types.specs.declared.value.Ty.{Ty}
use denote.Enum.Bare.{same_true}
use Rattle.fb_read.specs.contracts.token.Mark.{the_type}
use Rattle.fb_read.specs.declared.token.Token.TheVariants as token
use Rattle.fb_read.specs.Parser.{ty_of, typed}
use Rattle.fb_read.specs.Grammar.{IsWhole, IsTime, IsType, is_type}

-- which way a test went
pub chosen : {A : Type 0} (b : Bool) (x y z : A) → cond b x y ≡ z → ((b ≡ true) × (x ≡ z)) ⊎ ((b ≡ false) × (y ≡ z))
chosen true x y z e = inl (refl, e)
chosen false x y z e = inr (refl, e)

-- two steps that did not fail
pub both_ok : {A B : Type 0} (r : Outcome A) (f : A → Parser B) (y : B × Tokens) → and_then r f ≡ Ok y → (x : A) × (mid : Tokens) × (r ≡ Ok (x, mid)) × (f x mid ≡ Ok y)
both_ok (Ok p) f y e = (p.0, p.1, refl, e)
both_ok (Err fault) f y e = absurd cc

abbrev pub done : {A : Type 0} → A → Tokens → Outcome A
done x rest = Ok (x, rest)

abbrev pair_done : {A : Type 0} → A × Tokens → Outcome A
pair_done p = Ok p

pub pair_is : {A : Type 0} (p q : A × Tokens) → pair_done p ≡ pair_done q → p ≡ q
pair_is p q e = cc

-- a step that ends a rule
pub made : {A : Type 0} (R : A → Tokens → Tokens → Type 0) (x y : A) (ts mid rest : Tokens) → done x mid ≡ done y rest → R x ts mid → R y ts rest
made {A = A} R x y ts mid rest e r = subst (λ (q : A × Tokens). R q.0 ts q.1) (pair_is (x, mid) (y, rest) e) r

same_mark-true : (j k : Mark) → same_mark j k ≡ true → j ≡ k
unfolding same_mark
same_mark-true j k e = same_true the_type (search rules) j k e

same_mark-refl : (k : Mark) → same_mark k k ≡ true
unfolding same_mark
same_mark-refl k = eq-eqb _ _ refl

pub seen : (k : Mark) (ts : Tokens) → sees k ts ≡ true → IsMark k ts (rest_of ts)
seen k [] e = absurd cc
seen k (token.Mark j ∷ ts) e = subst (λ (i : Mark). IsMark i (token.Mark j ∷ ts) ts) (same_mark-true j k e) is_mark
seen k (token.Name t ∷ ts) e = absurd cc
seen k (token.Whole n ∷ ts) e = absurd cc
seen k (token.Time n ∷ ts) e = absurd cc

pub sees-mark : {k : Mark} {ts rest : Tokens} → IsMark k ts rest → sees k ts ≡ true
sees-mark {k = k} is_mark = same_mark-refl k

pub expected : (k : Mark) (ts : Tokens) (rest : Tokens) → expect k ts ≡ Ok (tt, rest) → IsMark k ts rest
unfolding expect
expected k ts rest e = elim (chosen (sees k ts) (Ok (tt, rest_of ts)) (Err (syntax ts)) (Ok (tt, rest)) e) [
  | inl w ↦ subst (λ (r : Tokens). IsMark k ts r) (ap (λ (p : Unit {0} × Tokens). p.1) (pair_is (tt, rest_of ts) (tt, rest) w.1)) (seen k ts w.0)
  | inr w ↦ absurd cc
]

pub after-seen : (k : Mark) (ts : Tokens) → sees k ts ≡ true → after k ts ≡ rest_of ts
unfolding after
after-seen k ts e = rw e refl

pub after-unseen : (k : Mark) (ts : Tokens) → sees k ts ≡ false → after k ts ≡ ts
unfolding after
after-unseen k ts e = rw e refl

pub after-mark : {k : Mark} {ts rest : Tokens} → IsMark k ts rest → after k ts ≡ rest
unfolding after
after-mark {k = k} is_mark = rw (same_mark-refl k) refl

-- a mark that was taken if it was next
pub eaten : {A : Type 0} (k : Mark) (p q : Parser A) (ts : Tokens) (z : A × Tokens) → (cond (sees k ts) p q) (after k ts) ≡ Ok z
    → (IsMark k ts (after k ts) × (p (after k ts) ≡ Ok z)) ⊎ ((sees k ts ≡ false) × (q ts ≡ Ok z))
eaten k p q ts z h = go (sees k ts) refl h
  where
    go : (b : Bool) → sees k ts ≡ b → (cond b p q) (after k ts) ≡ Ok z → (IsMark k ts (after k ts) × (p (after k ts) ≡ Ok z)) ⊎ ((sees k ts ≡ false) × (q ts ≡ Ok z))
    go true e r = inl (rw (after-seen k ts e) (seen k ts e), r)
    go false e r = inr (e, subst (λ (t : Tokens). q t ≡ Ok z) (after-unseen k ts e) r)

pub named : (ts : Tokens) (t : Name) (rest : Tokens) → name ts ≡ Ok (t, rest) → IsName t ts rest
unfolding name
named [] t rest h = absurd cc
named (token.Name s ∷ ts) t rest h = made IsName s t (token.Name s ∷ ts) ts rest h is_name
named (token.Mark k ∷ ts) t rest h = absurd cc
named (token.Whole n ∷ ts) t rest h = absurd cc
named (token.Time n ∷ ts) t rest h = absurd cc

pub spelled : (text : Name) (ts rest : Tokens) → word text ts ≡ Ok (tt, rest) → IsName text ts rest
unfolding word
spelled text [] rest h = absurd cc
spelled text (token.Name t ∷ ts) rest h =
    elim (chosen (bytes_eq t text) (Ok (tt, ts)) (Err (syntax (token.Name t ∷ ts))) (Ok (tt, rest)) h) [
      | inl w ↦
          let same : t ≡ text = (bytes_eq-Decides t text).0 w.0 in
          let left : ts ≡ rest = ap (λ (p : Unit {0} × Tokens). p.1) (pair_is (tt, ts) (tt, rest) w.1) in
          rw (same, left) is_name
      | inr w ↦ absurd cc
    ]
spelled text (token.Mark k ∷ ts) rest h = absurd cc
spelled text (token.Whole n ∷ ts) rest h = absurd cc
spelled text (token.Time n ∷ ts) rest h = absurd cc

pub typed_by : (ts : Tokens) (t : Ty) (rest : Tokens) → ty_name ts ≡ Ok (t, rest) → IsType t ts rest
unfolding ty_name
typed_by [] t rest h = absurd cc
typed_by (token.Mark k ∷ ts) t rest h = go (ty_of k) refl h
  where
    go : (o : Option Ty) → ty_of k ≡ o → typed o (token.Mark k) ts ≡ Ok (t, rest) → IsType t (token.Mark k ∷ ts) rest
    go (Some u) e r = made IsType u t (token.Mark k ∷ ts) ts rest r (is_type e is_mark)
    go None e r = absurd cc
typed_by (token.Name s ∷ ts) t rest h = absurd cc
typed_by (token.Whole n ∷ ts) t rest h = absurd cc
typed_by (token.Time n ∷ ts) t rest h = absurd cc

pub type-complete : (t : Ty) (ts rest : Tokens) → IsType t ts rest → ty_name ts ≡ done t rest
unfolding ty_name
type-complete t ts rest (is_type e is_mark) = rw e refl

pub counted : (ts : Tokens) (n : ℕ) (rest : Tokens) → whole ts ≡ Ok (n, rest) → IsWhole n ts rest
unfolding whole
counted [] n rest h = absurd cc
counted (token.Whole m ∷ ts) n rest h = made IsWhole m n (token.Whole m ∷ ts) ts rest h is_whole
counted (token.Mark k ∷ ts) n rest h = absurd cc
counted (token.Name t ∷ ts) n rest h = absurd cc
counted (token.Time t ∷ ts) n rest h = absurd cc

pub alone : (ts rest : Tokens) → one ts ≡ Ok (tt, rest) → IsWhole 1 ts rest
unfolding one
alone [] rest h = absurd cc
alone (token.Whole n ∷ ts) rest h =
    elim (chosen (eqb n 1) (Ok (tt, ts)) (Err (syntax (token.Whole n ∷ ts))) (Ok (tt, rest)) h) [
      | inl w ↦
          let same : n ≡ 1 = eqb-true n 1 w.0 in
          let left : ts ≡ rest = ap (λ (p : Unit {0} × Tokens). p.1) (pair_is (tt, ts) (tt, rest) w.1) in
          rw (same, left) is_whole
      | inr w ↦ absurd cc
    ]
alone (token.Mark k ∷ ts) rest h = absurd cc
alone (token.Name t ∷ ts) rest h = absurd cc
alone (token.Time t ∷ ts) rest h = absurd cc

-- a whole or a time literal
pub data IsLiteral : ℤ → Tokens → Tokens → Type 0 where
  of_whole : {n : ℕ} {ts rest : Tokens} → IsWhole n ts rest → IsLiteral (pos n) ts rest
  of_time : {ticks : ℤ} {ts rest : Tokens} → IsTime ticks ts rest → IsLiteral ticks ts rest

pub written : (ts : Tokens) (n : ℤ) (rest : Tokens) → literal ts ≡ Ok (n, rest) → IsLiteral n ts rest
unfolding literal
written [] n rest h = absurd cc
written (token.Whole m ∷ ts) n rest h = made IsLiteral (pos m) n (token.Whole m ∷ ts) ts rest h (of_whole is_whole)
written (token.Time t ∷ ts) n rest h = made IsLiteral t n (token.Time t ∷ ts) ts rest h (of_time is_time)
written (token.Mark k ∷ ts) n rest h = absurd cc
written (token.Name t ∷ ts) n rest h = absurd cc

pub type-shorter : {t : Ty} {ts rest : Tokens} → IsType t ts rest → length rest < length ts
type-shorter (is_type e is_mark) = omega arith

pub mark-shorter : {k : Mark} {ts rest : Tokens} → IsMark k ts rest → length rest < length ts
mark-shorter is_mark = omega arith

pub name-shorter : {t : Name} {ts rest : Tokens} → IsName t ts rest → length rest < length ts
name-shorter is_name = omega arith

pub whole-shorter : {n : ℕ} {ts rest : Tokens} → IsWhole n ts rest → length rest < length ts
whole-shorter is_whole = omega arith

pub time-shorter : {n : ℤ} {ts rest : Tokens} → IsTime n ts rest → length rest < length ts
time-shorter is_time = omega arith

-- What is read if nothing nests over the limit, and refused for its nesting if something does.
use Rattle.fb_read.proofs.lemmas.Common.{◌≡◌, ℕ, zero, suc, ◌-◌, max, Bool, leb, refl, sym, ap, ◌∙◌, inl, inr, arith, ◌&&◌, cases_lt, le-leb, lt-leb, Expr, Tokens, Parser, Outcome, and_then, nesting, most_nesting, Stops, loosest, IsExpression, expression}
use Rattle.fb_read.proofs.lemmas.rules.Steps.{done}
use Rattle.fb_read.proofs.lemmas.rules.Lists.{picked}
use Rattle.fb_read.proofs.lemmas.expressions.ExpressionComplete.{expression-complete}

-- by how much it nests over the limit
abbrev pub room : {A : Type 0} → ℕ → A → Tokens → Outcome A
room k x rest = picked (leb k 0) x rest

pub bind-room : {A B : Type 0} (k m : ℕ) (x : A) (mid : Tokens) (f : A → Parser B) (y : B) (rest : Tokens) → f x mid ≡ room m y rest → and_then (room k x mid) f ≡ room (max k m) y rest
bind-room zero m x mid f y rest h = let e : m ≡ max 0 m = omega arith in h ∙ ap (λ (n : ℕ). room n y rest) e
bind-room (suc k) m x mid f y rest h = rw (lt-leb (suc k) 0 (omega arith), lt-leb (max (suc k) m) 0 (omega arith)) refl

-- the same, if the sum of both is known
pub bind-is : {A B : Type 0} (k m n : ℕ) (x : A) (mid : Tokens) (f : A → Parser B) (y : B) (rest : Tokens) → max k m ≡ n → f x mid ≡ room m y rest → and_then (room k x mid) f ≡ room n y rest
bind-is k m n x mid f y rest e h = bind-room k m x mid f y rest h ∙ ap (λ (i : ℕ). room i y rest) e

-- a value that is made of the one that was read
pub map-room : {A B : Type 0} (k : ℕ) (x : A) (rest : Tokens) (g : A → B) → and_then (room k x rest) (λ y. done (g y)) ≡ room k (g x) rest
map-room zero x rest g = refl
map-room (suc k) x rest g = rw (lt-leb (suc k) 0 (omega arith)) refl

pub same-room : {A : Type 0} (k m : ℕ) (x : A) (rest : Tokens) → k ≡ m → room k x rest ≡ room m x rest
same-room k m x rest e = ap (λ (n : ℕ). room n x rest) e

pub leb-over : (n d : ℕ) → leb n d ≡ leb (n - d) 0
leb-over n d = elim (cases_lt d n) [
  | inl lt ↦ rw (lt-leb n d lt, lt-leb (n - d) 0 (omega arith)) refl
  | inr le ↦ rw (le-leb n d le, le-leb (n - d) 0 (omega arith)) refl
]

pub both-over : (m n : ℕ) → leb (max m n) 0 ≡ leb m 0 && leb n 0
both-over zero zero = refl
both-over zero (suc n) = rw (lt-leb (max 0 (suc n)) 0 (omega arith), lt-leb (suc n) 0 (omega arith)) refl
both-over (suc m) n = rw (lt-leb (max (suc m) n) 0 (omega arith), lt-leb (suc m) 0 (omega arith)) refl

pub expression-room : (x : Expr) (ts rest : Tokens) → IsExpression x ts rest → Stops loosest rest → expression ts ≡ room (nesting x - most_nesting) x rest
expression-room x ts rest l h = expression-complete x ts rest l h ∙ ap (λ (b : Bool). picked b x rest) (leb-over (nesting x) most_nesting)

-- ---- sums of what nests over its limits

max-minus : (a b m : ℕ) → max (a - m) (b - m) ≡ max a b - m
max-minus a b m = omega arith

regroup : (p q r s : ℕ) → max (max p q) (max r s) ≡ max (max p r) (max q s)
regroup p q r s = omega arith

-- of two parts
pub over-both : (m n a b c d : ℕ) → max (max (a - m) (c - n)) (max (b - m) (d - n)) ≡ max (max a b - m) (max c d - n)
over-both m n a b c d = regroup (a - m) (c - n) (b - m) (d - n) ∙ rw (max-minus a b m, max-minus c d n) refl

regroup-one : (p q r : ℕ) → max p (max q r) ≡ max q (max p r)
regroup-one p q r = omega arith

-- of an expression and the rest
pub over-expression : (m n e a c : ℕ) → max (e - n) (max (a - m) (c - n)) ≡ max (a - m) (max e c - n)
over-expression m n e a c = regroup-one (e - n) (a - m) (c - n) ∙ rw (max-minus e c n) refl

suc-minus : (a b : ℕ) → suc a - suc b ≡ a - b
suc-minus a b = omega arith

-- of a statement, by its parts
pub over-node : (m n a c nests inside k : ℕ) → nests ≡ suc a → inside ≡ c → k ≡ max (a - m) (c - n) → k ≡ max (nests - suc m) (inside - n)
over-node m n a c nests inside k e f h = h ∙ sym (rw (e, f, suc-minus a m) refl)

-- An expression that is read if it keeps the limit of nesting, and refused if it does not.
use Rattle.fb_read.proofs.lemmas.Common.{◌≡◌, ℕ, suc, ◌<◌, ◌≤◌, Bool, true, false, cond, leb, Ok, Err, refl, sym, ap, ◌∙◌, arith, leb-true, le-leb, lt-leb, Expr, Nested, Tokens, Parser, Outcome, too_deep, and_then, nesting, around}
use Rattle.fb_types.proofs.Common.{leb-false}
use Rattle.fb_read.specs.Expressions.{leaf}
use Rattle.fb_read.proofs.lemmas.expressions.NestingLaws.{nesting-positive}

abbrev pub found : Nested → Tokens → Outcome Nested
found x rest = Ok (x, rest)

abbrev pub sized : Expr → Nested
sized x = record { expr = x; nesting = nesting x }

unfoldable pub within : ℕ → Expr → Tokens → Outcome Nested
within limit x rest = cond (leb (nesting x) limit) (Ok (sized x, rest)) (Err too_deep)

pub within-fits : (limit : ℕ) (x : Expr) (rest : Tokens) → nesting x ≤ limit → within limit x rest ≡ Ok (sized x, rest)
unfolding within
within-fits limit x rest le = rw (le-leb (nesting x) limit le) refl

pub within-over : (limit : ℕ) (x : Expr) (rest : Tokens) → limit < nesting x → within limit x rest ≡ Err too_deep
unfolding within
within-over limit x rest lt = rw (lt-leb (nesting x) limit lt) refl

pub within-zero : (x : Expr) (rest : Tokens) → within 0 x rest ≡ Err too_deep
within-zero x rest = within-over 0 x rest (omega (arith, nesting-positive x))

pub bind-within : {B : Type 0} (limit : ℕ) (x : Expr) (mid : Tokens) (f : Nested → Parser B) (out : Outcome B) → (nesting x ≤ limit → f (sized x) mid ≡ out) → (limit < nesting x → out ≡ Err too_deep) → and_then (within limit x mid) f ≡ out
unfolding within
bind-within limit x mid f out fits over = go (leb (nesting x) limit) refl
  where
    go : (b : Bool) → leb (nesting x) limit ≡ b → and_then (cond b (Ok (sized x, mid)) (Err too_deep)) f ≡ out
    go true e = fits (leb-true _ _ e)
    go false e = sym (over (leb-false _ _ e))

pub around-is : (below depth : ℕ) (x : Expr) (rest : Tokens) → nesting x ≡ suc depth → around below depth x rest ≡ within (suc below) x rest
unfolding around within
around-is below depth x rest e = go (leb depth below) refl
  where
    go : (b : Bool) → leb depth below ≡ b → cond b (found (record { expr = x; nesting = suc depth }) rest) (Err too_deep) ≡ cond (leb (nesting x) (suc below)) (found (sized x) rest) (Err too_deep)
    go true h = let k = leb-true _ _ h in rw (e, le-leb (suc depth) (suc below) (omega arith)) refl
    go false h = let k = leb-false _ _ h in rw (e, lt-leb (suc depth) (suc below) (omega arith)) refl

pub leaf-is : (below : ℕ) (x : Expr) (rest : Tokens) → nesting x ≡ 1 → within (suc below) x rest ≡ Ok (leaf x, rest)
leaf-is below x rest e = within-fits (suc below) x rest (omega arith) ∙ ap (λ (n : ℕ). Ok (record { expr = x; nesting = n }, rest)) e

-- an expression with one part
pub one-part : (below : ℕ) (y x : Expr) (mid rest : Tokens) (f : Nested → Parser Nested) → nesting x ≡ suc (nesting y)
    → f (sized y) mid ≡ around below (nesting y) x rest → and_then (within below y mid) f ≡ within (suc below) x rest
one-part below y x mid rest f e h =
    bind-within below y mid f (within (suc below) x rest) (λ le. h ∙ around-is below (nesting y) x rest e) (λ lt. within-over (suc below) x rest (omega arith))

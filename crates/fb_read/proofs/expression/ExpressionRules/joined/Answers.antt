use Rattle.fb_read.proofs.lemmas.Common.{◌≡◌, ◌≤◌, ℕ, max, Result, Ok, Err, refl, ap, le-leb, lt-leb, err_from_is_err_and, BinaryOperator, Expr, ParseFault, Tokens, Parser, Reads, and_then, rest_of, Nested, around}
use Rattle.fb_types.specs.declared.text.Expr.TheVariants as e
use Rattle.fb_read.specs.Expressions.{joined}
use Rattle.fb_read.proofs.lemmas.rules.Reading.{goes_on, read_as, stops, stops_as}
use Rattle.fb_read.proofs.expression.ExpressionRules.joined.Goals as goal

-- an operator, after a left operand that does not nest too deep
within : (below : ℕ) (operand : Parser Nested) (left : Nested) (op : BinaryOperator) (ts rest : Tokens) → rest ≡ rest_of ts → left.nesting ≤ below
    → joined below operand left op ts ≡ and_then (operand rest) (λ right. around below (max left.nesting right.nesting) (e.Binary op left.expr right.expr))
unfolding joined
within below operand left op ts rest is le = rw (le-leb left.nesting below le, is) refl

-- the same, where its right operand is refused
stopped : (below : ℕ) (operand : Parser Nested) (left : Nested) (op : BinaryOperator) (ts rest : Tokens) (fault : ParseFault) (new : Tokens)
    → rest ≡ rest_of ts → left.nesting ≤ below → Reads (operand rest) (Err fault) new → Reads (joined below operand left op ts) (Err fault) new
stopped below operand left op ts rest fault new is le reads = stops_as _ _ _ _ (within below operand left op ts rest is le) (stops _ _ _ _ reads)

-- the same, where it is read
made : (below : ℕ) (operand : Parser Nested) (left right : Nested) (op : BinaryOperator) (ts rest mid : Tokens) (depth : ℕ) (x y : Expr) (r : Result Nested ParseFault) (new : Tokens)
    → rest ≡ rest_of ts → left.nesting ≤ below → operand rest ≡ Ok (right, mid) → depth ≡ max left.nesting right.nesting → ◌≡◌ {A = Expr × Expr} (x, y) (left.expr, right.expr)
    → Reads (around below depth (e.Binary op x y) mid) r new → Reads (joined below operand left op ts) r new
made below operand left right op ts rest mid depth x y r new is le found deepest both reads =
    let xs = ap (λ (p : Expr × Expr). p.0) both in
    let ys = ap (λ (p : Expr × Expr). p.1) both in
    read_as _ _ _ _ (within below operand left op ts rest is le) (goes_on _ _ _ _ _ _ found (rw (deepest, xs, ys) at reads))

pub returns-then-nesting-self : goal.returns-then-nesting-self
unfolding joined
returns-then-nesting-self g c = rw (lt-leb c.args.left.nesting c.args.self.now.below c.if-nesting-self.true) refl

pub returns-in_err-right : goal.returns-in_err-right
returns-in_err-right g c =
    let p = err_from_is_err_and c.from_residual.result c.from_residual.ensures.1 in
    rw (p.1, p.2) (stopped _ _ _ _ _ _ _ _ c.take.ensures c.if-nesting-self.false c.in_err-right.ensures)

pub returns : goal.returns
returns g c = made _ _ _ _ _ _ _ _ _ _ _ _ _ c.take.ensures c.if-nesting-self.false c.in_ok-right.ensures c.max-depth.ensures c.in_ok-x.ensures c.around.ensures

-- What the parser of expressions computes.
use Rattle.std.specs.Prelude.{ℕ, zero, suc, max, true, false, if◌then◌else◌, nat_le, List, [], ◌∷◌, ◌++◌, length, Option, Some, None, Ok, Err}
use Rattle.fb_types.specs.Names.{Name}
use Rattle.fb_types.specs.declared.text.BinaryOperator.{BinaryOperator}
use Rattle.fb_types.specs.declared.text.UnaryOperator.{UnaryOperator}
use Rattle.fb_types.specs.declared.text.UnaryOperator.TheVariants as sign
use Rattle.fb_types.specs.declared.text.Expr.{Expr}
use Rattle.fb_types.specs.declared.text.Expr.TheVariants as e
use Rattle.fb_read.specs.declared.token.Mark.TheVariants as mark
use Rattle.fb_read.specs.declared.expression.Nested.{Nested}
use Rattle.fb_read.specs.Parser.{Parser, ◌>>=◌, ◌>>◌, pure, refuse, eat, expect, name, literal, sees_name, rest_of, syntax, too_deep}
use Rattle.fb_read.specs.Operators.{next_operator, begins_expression, loosest}
use Rattle.fb_read.specs.Nesting.{most_nesting}

abbrev pub leaf : Expr → Nested
leaf x = record { expr = x; nesting = 1 }

-- one level more than the deepest part, if the limit allows it
unfoldable pub around : ℕ → ℕ → Expr → Parser Nested
around below depth x = λ ts. if nat_le depth below then Ok (record { expr = x; nesting = suc depth }, ts) else Err too_deep

-- the expression of an operator, which is the next token, after its left operand
unfoldable pub joined : ℕ → Parser Nested → Nested → BinaryOperator → Parser Nested
joined below operand left op = λ ts. if nat_le left.nesting below then (do
  right ← operand
  around below (max left.nesting right.nesting) (e.Binary op left.expr right.expr)) (rest_of ts) else Err too_deep

-- below: how deep the parts of the expression may nest; inner: their parser, by the level of their operators
module _ (below : ℕ) (inner : ℕ → Parser Nested) where
  -- what is in parentheses
  unfoldable pub group : Parser Nested
  group = do
    x ← inner loosest
    expect mark.Close
    around below x.nesting (e.Group x.expr)

  unfoldable pub prefixed : UnaryOperator → Parser Nested
  prefixed op = do
    x ← inner 0
    around below x.nesting (e.Unary op x.expr)

  -- by the number of iterations that are left, the arguments so far and their nesting
  unfoldable pub arguments_from : ℕ → List Expr → ℕ → Parser (List Expr × ℕ)
  arguments_from zero found depth = refuse
  arguments_from (suc n) found depth = do
    x ← inner loosest
    more ← eat mark.Comma
    if more then arguments_from n (found ++ x.expr ∷ []) (max depth x.nesting) else pure (found ++ x.expr ∷ [], max depth x.nesting)

  -- A call without arguments may be possible where one with arguments nests too deep, so what begins no argument is
  -- refused first.
  unfoldable pub arguments : Parser (List Expr × ℕ)
  arguments = λ ts. if begins_expression ts then arguments_from (length ts) [] 0 ts else Err (syntax ts)

  -- after the opening parenthesis
  unfoldable pub call : Name → Parser Nested
  call function = do
    is_empty ← eat mark.Close
    if is_empty then pure (leaf (e.Call function [])) else (do
      found ← arguments
      expect mark.Close
      around below found.1 (e.Call function found.0))

  unfoldable pub named : Parser Nested
  named = do
    first ← name
    is_call ← eat mark.Open
    if is_call then call first else pure (leaf (e.Variable first))

  unfoldable pub primary : Parser Nested
  primary = do
    is_open ← eat mark.Open
    if is_open then group else (do
      is_true ← eat mark.True
      if is_true then pure (leaf (e.Truth true)) else (do
        is_false ← eat mark.False
        if is_false then pure (leaf (e.Truth false)) else (λ ts. if sees_name ts then named ts else (do n ← literal; pure (leaf (e.Whole n))) ts)))

  unfoldable pub unary : Parser Nested
  unary = do
    is_minus ← eat mark.Minus
    if is_minus then prefixed sign.Negate else (do
      is_not ← eat mark.Not
      if is_not then prefixed sign.Not else primary)

  -- An operator after an expression at the limit nests too deep, whatever follows it.
  abbrev pub operated : (Nested → Parser Nested) → Parser Nested → Nested → Option BinaryOperator → Parser Nested
  operated go operand left None = pure left
  operated go operand left (Some op) = λ ts. if nat_le left.nesting below then (do
    right ← operand
    longer ← around below (max left.nesting right.nesting) (e.Binary op left.expr right.expr)
    go longer) (rest_of ts) else Err too_deep

  -- goes on with operators of this level; by the number of iterations that are left
  unfoldable pub climb : ℕ → Parser Nested → ℕ → Nested → Parser Nested
  climb level operand zero left = pure left
  climb level operand (suc n) left = λ ts. operated (climb level operand n) operand left (next_operator level ts) ts

  unfoldable pub level_at : ℕ → Parser Nested
  level_at zero = unary
  level_at (suc n) = do
    first ← level_at n
    (λ ts. climb (suc n) (inner n) (length ts) first ts)

-- an expression of this level that nests no deeper than the first number
unfoldable pub nested_expression : ℕ → ℕ → Parser Nested
nested_expression zero level = λ ts. Err too_deep
nested_expression (suc depth) level = level_at depth (nested_expression depth) level

unfoldable pub expression : Parser Expr
expression = do
  x ← nested_expression most_nesting loosest
  pure x.expr

-- The binary operators and how tightly they bind (IEC 61131-3, 7.3.2, in this project's profile). Level 1 binds tightest.
use Rattle.std.specs.Prelude.{◌≡◌, ◌≤◌, ℕ, if◌then◌else◌, ◌==◌, Bool, true, false, [], ◌∷◌, Option, Some, None}
use Rattle.fb_types.specs.declared.text.BinaryOperator.{BinaryOperator}
use Rattle.fb_types.specs.declared.text.BinaryOperator.TheVariants as op
use Rattle.fb_read.specs.declared.token.Mark.{Mark}
use Rattle.fb_read.specs.declared.token.Mark.TheVariants as mark
use Rattle.fb_read.specs.declared.token.Token.TheVariants as token
use Rattle.fb_read.specs.Tokens.{Tokens}
use Rattle.fb_read.specs.Parser.{sees}

-- the level of a mark's operator, and that operator
abbrev pub operator_of : Mark → Option (ℕ × BinaryOperator)
operator_of mark.Star = Some (1, op.Multiply)
operator_of mark.Slash = Some (1, op.Divide)
operator_of mark.Mod = Some (1, op.Modulo)
operator_of mark.Plus = Some (2, op.Add)
operator_of mark.Minus = Some (2, op.Subtract)
operator_of mark.Less = Some (3, op.Less)
operator_of mark.Greater = Some (3, op.Greater)
operator_of mark.LessOrEqual = Some (3, op.LessOrEqual)
operator_of mark.GreaterOrEqual = Some (3, op.GreaterOrEqual)
operator_of mark.Equal = Some (4, op.Equal)
operator_of mark.NotEqual = Some (4, op.NotEqual)
operator_of mark.And = Some (5, op.And)
operator_of mark.Ampersand = Some (5, op.And)
operator_of mark.Xor = Some (6, op.Xor)
operator_of mark.Or = Some (7, op.Or)
operator_of _ = None

abbrev pub at_level : ℕ → Option (ℕ × BinaryOperator) → Option BinaryOperator
at_level n None = None
at_level n (Some found) = if found.0 == n then Some found.1 else None

-- the operator of that level that is next
abbrev pub next_operator : ℕ → Tokens → Option BinaryOperator
next_operator n (token.Mark k ∷ ts) = at_level n (operator_of k)
next_operator n _ = None

-- the level that binds loosest, that of a whole expression
abbrev pub loosest : ℕ
loosest = 7

-- an expression begins with this mark
abbrev pub begins_by : Mark → Bool
begins_by mark.Minus = true
begins_by mark.Not = true
begins_by mark.Open = true
begins_by mark.True = true
begins_by mark.False = true
begins_by _ = false

-- an expression may begin here
abbrev pub begins_expression : Tokens → Bool
begins_expression [] = false
begins_expression (token.Mark k ∷ ts) = begins_by k
begins_expression (_ ∷ ts) = true

-- An expression of this level does not continue here.
pub record Stops (n : ℕ) (ts : Tokens) : Type 0 where
  pub no_call : sees mark.Open ts ≡ false
  pub no_operator : (m : ℕ) → m ≤ n → next_operator m ts ≡ None

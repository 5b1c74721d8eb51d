-- The grammar of expressions, a case for each production (IEC 61131-3, Annex A, in this project's profile). It has no
-- limit of nesting.
--
--   level 7  expr    = xors { OR xors }
--   level 6  xors    = ands { XOR ands }
--   level 5  ands    = equals { ( AND | "&" ) equals }
--   level 4  equals  = compare { ( "=" | "<>" ) compare }
--   level 3  compare = sum { ( "<" | ">" | "<=" | ">=" ) sum }
--   level 2  sum     = term { ( "+" | "-" ) term }
--   level 1  term    = unary { ( "*" | "/" | MOD ) unary }
--   level 0  unary
--
-- `operator_of` has the level of each operator.
use Rattle.std.specs.Prelude.{◌≡◌, ℕ, zero, suc, ℤ, pos, true, false, List, [], ◌∷◌, Some}
use Rattle.fb_types.specs.Names.{Name}
use Rattle.fb_types.specs.declared.text.BinaryOperator.{BinaryOperator}
use Rattle.fb_types.specs.declared.text.UnaryOperator.TheVariants as sign
use Rattle.fb_types.specs.declared.text.Expr.{Expr}
use Rattle.fb_types.specs.declared.text.Expr.TheVariants as e
use Rattle.fb_read.specs.declared.token.Mark.{Mark}
use Rattle.fb_read.specs.declared.token.Mark.TheVariants as mark
use Rattle.fb_read.specs.Tokens.{Tokens}
use Rattle.fb_read.specs.Grammar.{IsMark, IsName, IsWhole, IsTime}
use Rattle.fb_read.specs.Operators.{operator_of, loosest}

mutual
  -- level 0 is unary, and each other level is lower { operator lower }, grouped to the left
  pub data IsLevel : ℕ → Expr → Tokens → Tokens → Type 0 where
    is_unary : {x : Expr} {ts rest : Tokens} → IsUnary x ts rest → IsLevel zero x ts rest
    is_chain : {n : ℕ} {first x : Expr} {ts mid rest : Tokens} → IsLevel n first ts mid → IsChain n first x mid rest → IsLevel (suc n) x ts rest

  -- { operator lower }: what the first expression becomes by the operators of level n + 1 after it
  pub data IsChain : ℕ → Expr → Expr → Tokens → Tokens → Type 0 where
    ends : {n : ℕ} {x : Expr} {ts : Tokens} → IsChain n x x ts ts
    goes_on : {n : ℕ} {k : Mark} {op : BinaryOperator} {left right x : Expr} {ts before following rest : Tokens}
        → IsMark k ts before → operator_of k ≡ Some (suc n, op) → IsLevel n right before following
        → IsChain n (e.Binary op left right) x following rest → IsChain n left x ts rest

  -- unary = ( "-" | NOT ) unary | primary
  pub data IsUnary : Expr → Tokens → Tokens → Type 0 where
    negated : {x : Expr} {ts mid rest : Tokens} → IsMark mark.Minus ts mid → IsUnary x mid rest → IsUnary (e.Unary sign.Negate x) ts rest
    inverted : {x : Expr} {ts mid rest : Tokens} → IsMark mark.Not ts mid → IsUnary x mid rest → IsUnary (e.Unary sign.Not x) ts rest
    is_primary : {x : Expr} {ts rest : Tokens} → IsPrimary x ts rest → IsUnary x ts rest

  -- primary = whole | time | TRUE | FALSE | name | "(" expr ")" | name "(" [ expr { "," expr } ] ")"
  pub data IsPrimary : Expr → Tokens → Tokens → Type 0 where
    is_number : {n : ℕ} {ts rest : Tokens} → IsWhole n ts rest → IsPrimary (e.Whole (pos n)) ts rest
    is_duration : {ticks : ℤ} {ts rest : Tokens} → IsTime ticks ts rest → IsPrimary (e.Whole ticks) ts rest
    is_true : {ts rest : Tokens} → IsMark mark.True ts rest → IsPrimary (e.Truth true) ts rest
    is_false : {ts rest : Tokens} → IsMark mark.False ts rest → IsPrimary (e.Truth false) ts rest
    is_variable : {name : Name} {ts rest : Tokens} → IsName name ts rest → IsPrimary (e.Variable name) ts rest
    is_group : {x : Expr} {ts before following rest : Tokens} → IsMark mark.Open ts before → IsLevel loosest x before following → IsMark mark.Close following rest
        → IsPrimary (e.Group x) ts rest
    is_bare_call : {name : Name} {ts named opened rest : Tokens} → IsName name ts named → IsMark mark.Open named opened → IsMark mark.Close opened rest
        → IsPrimary (e.Call name []) ts rest
    is_call : {name : Name} {xs : List Expr} {ts named opened following rest : Tokens} → IsName name ts named → IsMark mark.Open named opened
        → AreArguments xs opened following → IsMark mark.Close following rest → IsPrimary (e.Call name xs) ts rest

  -- expr { "," expr }
  pub data AreArguments : List Expr → Tokens → Tokens → Type 0 where
    one : {x : Expr} {ts rest : Tokens} → IsLevel loosest x ts rest → AreArguments (x ∷ []) ts rest
    another : {x : Expr} {xs : List Expr} {ts before following rest : Tokens} → IsLevel loosest x ts before → IsMark mark.Comma before following
        → AreArguments xs following rest → AreArguments (x ∷ xs) ts rest

-- an expression
abbrev pub IsExpression : Expr → Tokens → Tokens → Type 0
IsExpression = IsLevel loosest

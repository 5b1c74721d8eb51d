-- A function value that reads expressions to a depth.
use Rattle.std.specs.Prelude.{ℕ, ◌<◌, Result}
use denote.Ref.{MutBor}
use Rattle.fb_read.specs.declared.expression.Nested.{Nested}
use Rattle.fb_read.specs.declared.fault.ParseFault.{ParseFault}
use Rattle.fb_read.specs.Tokens.{Tokens}
use Rattle.fb_read.specs.Parser.{Reads}
use Rattle.fb_read.specs.Expressions.{nested_expression}

pub record Nests (depth : ℕ) (pre : MutBor Tokens → ℕ → ℕ → Type 0)
    (post : MutBor Tokens → ℕ → ℕ → Result Nested ParseFault → MutBor Tokens → Type 0) : Type 0 where
  pub small : depth < 64
  pub callable : (old : MutBor Tokens) (level : ℕ) → pre old depth level
  pub reads : (old new : MutBor Tokens) (level : ℕ) (r : Result Nested ParseFault) → post old depth level r new
      → Reads (nested_expression depth level old.now) r new.now

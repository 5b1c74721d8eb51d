-- A function value that reads statements to a depth.
use Rattle.std.specs.Prelude.{ℕ, Result}
use denote.Ref.{MutBor}
use Rattle.fb_types.specs.declared.text.Stmt.{Stmt}
use Rattle.fb_read.specs.declared.fault.ParseFault.{ParseFault}
use Rattle.fb_read.specs.Tokens.{Tokens}
use Rattle.fb_read.specs.Parser.{Reads}
use Rattle.fb_read.specs.Statements.{nested_statement}

pub record StatementNests (depth : ℕ) (pre : MutBor Tokens → ℕ → Type 0)
    (post : MutBor Tokens → ℕ → Result Stmt ParseFault → MutBor Tokens → Type 0) : Type 0 where
  pub callable : (old : MutBor Tokens) → pre old depth
  pub reads : (old new : MutBor Tokens) (r : Result Stmt ParseFault) → post old depth r new
      → Reads (nested_statement depth old.now) r new.now

-- What it means that a parser reads what a grammar derives, up to a limit (this project's profile).
use Rattle.std.specs.Prelude.{◌≡◌, Ok, Err}
use Rattle.fb_read.specs.Tokens.{Tokens}
use Rattle.fb_read.specs.Parser.{Parser, too_deep}
use Rattle.fb_read.specs.Operators.{Stops, loosest}
use Rattle.fb_read.specs.Nesting.{ExpressionFits, BodyFits}
use Rattle.fb_read.specs.Expressions.{expression}
use Rattle.fb_read.specs.ExpressionGrammar.{IsExpression}
use Rattle.fb_read.specs.Statements.{body}
use Rattle.fb_read.specs.StatementGrammar.{IsBody}

-- After: what may follow what is read; Fits: it keeps the limit
pub record ReadsExactly {A : Type 0} (parser : Parser A) (Derives : A → Tokens → Tokens → Type 0) (IsAfter : Tokens → Type 0) (Fits : A → Type 0) : Type 0 where
  -- what is read is derived, and keeps the limit
  pub derived : (x : A) (ts rest : Tokens) → parser ts ≡ Ok (x, rest) → Derives x ts rest
  pub kept : (x : A) (ts rest : Tokens) → parser ts ≡ Ok (x, rest) → Fits x
  -- what is derived and keeps the limit is read
  pub read : (x : A) (ts rest : Tokens) → Derives x ts rest → IsAfter rest → Fits x → parser ts ≡ Ok (x, rest)
  -- what is derived and does not keep it is refused for its nesting
  pub refused : (x : A) (ts rest : Tokens) → Derives x ts rest → IsAfter rest → ¬ Fits x → parser ts ≡ Err too_deep

abbrev pub ReadsExpressions : Type 0
ReadsExpressions = ReadsExactly expression IsExpression (Stops loosest) ExpressionFits

abbrev pub ReadsBodies : Type 0
ReadsBodies = ReadsExactly body IsBody (λ rest. Unit {0}) BodyFits

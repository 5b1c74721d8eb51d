-- The parts of statements, made of their parts.
use Rattle.std.specs.Prelude.{ℤ, List}
use Rattle.fb_types.specs.declared.text.Expr.{Expr}
use Rattle.fb_types.specs.declared.text.Stmt.{Stmt}
use Rattle.fb_types.specs.declared.text.Choice.{Choice, roll-Choice}
use Rattle.fb_types.specs.declared.text.Branch.{Branch, roll-Branch}
use Rattle.fb_types.specs.declared.text.Label.{Label}
use Rattle.fb_types.specs.declared.text.Body.{Body}

abbrev pub label_of : ℤ → ℤ → Label
label_of first last = record { first = first; last = last }

abbrev pub choice_of : Expr → List Stmt → Choice
choice_of condition body = roll-Choice (record { condition = condition; body = body })

abbrev pub branch_of : List Label → List Stmt → Branch
branch_of labels body = roll-Branch (record { labels = labels; body = body })

abbrev pub body_of : List Stmt → Body
body_of statements = record { statements = statements }

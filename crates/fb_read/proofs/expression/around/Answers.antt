use native.Mathlib.Numerals.{unary_clauses}
use Rattle.fb_read.proofs.lemmas.Common.{refl, le-leb, around}
use Rattle.fb_read.proofs.expression.around.Goals as goal

pub returns-then-depth-below : goal.returns-then-depth-below
unfolding around
returns-then-depth-below c = rw (le-leb c.args.depth c.args.below c.if-depth-below.true) (simp unary_clauses refl)

use Rattle.fb_read.proofs.lemmas.Common.{◌≡◌, ap, arith, nested_statement}
use Rattle.fb_read.proofs.lemmas.rules.CountedLoops.{deeper}
use Rattle.fb_read.proofs.statement.+nested_statement.Goals as goal

pub returns-then-depth-eq0 : goal.returns-then-depth-eq0
unfolding nested_statement
returns-then-depth-eq0 t c = let none : c.args.depth ≡ 0 = omega arith in ap (λ n. nested_statement n c.args.cursor.now) none

pub returns : goal.returns
unfolding nested_statement
returns t c = rw (deeper (λ n. nested_statement n c.args.cursor.now) c.args.depth (omega arith)) c.statement.ensures

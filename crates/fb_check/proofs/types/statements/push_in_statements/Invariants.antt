use Rattle.fb_check.proofs.lemmas.Common.{◌≡◌, ◌++◌, drop, kinds_wrong_in_statement, standing_of, each_at, each_from}
use Rattle.fb_check.specs.declared.types.statements.Standing as code
use Rattle.fb_check.proofs.types.statements.push_in_statements.Given as goal

abbrev pub invariant-loop-statement : goal.invariant-loop-statement
invariant-loop-statement l =
    l.found.items ++ each_from (λ k (s : code.Standing). kinds_wrong_in_statement l.scope l.block l.algorithm k (standing_of s)) l.statement (drop l.statement l.statements) ≡ l.fn.found.items ++ each_at (λ k (s : code.Standing). kinds_wrong_in_statement l.scope l.block l.algorithm k (standing_of s)) l.statements

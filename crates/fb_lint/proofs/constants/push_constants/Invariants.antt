use Rattle.fb_lint.proofs.lemmas.Common.{◌≡◌, ◌++◌, drop, standing_of, each_from}
use Rattle.fb_lint.specs.Constants as spec
use Rattle.fb_lint.proofs.constants.push_constants.Given as goal

-- with what is found in the rest, all is there
abbrev pub invariant-loop-statement : goal.invariant-loop-statement
invariant-loop-statement l =
    l.all.items ++ each_from (λ k s. spec.constants_of l.at.basic.now l.at.block l.at.algorithm k (standing_of s)) l.statement (drop l.statement l.statements)
    ≡ l.fn.all.items ++ each_from (λ k s. spec.constants_of l.at.basic.now l.at.block l.at.algorithm k (standing_of s)) 0 l.statements

-- What is read takes tokens.
use Rattle.fb_read.proofs.lemmas.Common.{ℕ, ◌<◌, ◌≤◌, List, length, arith, Expr, Tokens, IsLevel, is_unary, is_chain, IsChain, ends, goes_on, IsUnary, negated, inverted, is_primary, IsPrimary, is_number, is_duration, is_true, is_false, is_variable, is_group, is_bare_call, is_call, AreArguments, another}
use Rattle.fb_read.specs.ExpressionGrammar.{one}
use Rattle.fb_read.proofs.lemmas.rules.Steps.{mark-shorter, name-shorter, whole-shorter, time-shorter}

mutual
  pub level-shorter : {n : ℕ} {x : Expr} {ts rest : Tokens} → IsLevel n x ts rest → length rest < length ts
  level-shorter (is_unary u) = unary-shorter u
  level-shorter (is_chain a c) = omega (arith, level-shorter a, chain-shorter c)

  pub chain-shorter : {n : ℕ} {first x : Expr} {ts rest : Tokens} → IsChain n first x ts rest → length rest ≤ length ts
  chain-shorter ends = omega arith
  chain-shorter (goes_on k o r c) = omega (arith, mark-shorter k, level-shorter r, chain-shorter c)

  pub unary-shorter : {x : Expr} {ts rest : Tokens} → IsUnary x ts rest → length rest < length ts
  unary-shorter (negated k u) = omega (arith, mark-shorter k, unary-shorter u)
  unary-shorter (inverted k u) = omega (arith, mark-shorter k, unary-shorter u)
  unary-shorter (is_primary p) = primary-shorter p

  pub primary-shorter : {x : Expr} {ts rest : Tokens} → IsPrimary x ts rest → length rest < length ts
  primary-shorter (is_number n) = whole-shorter n
  primary-shorter (is_duration t) = time-shorter t
  primary-shorter (is_true k) = mark-shorter k
  primary-shorter (is_false k) = mark-shorter k
  primary-shorter (is_variable t) = name-shorter t
  primary-shorter (is_group k x l) = omega (arith, mark-shorter k, level-shorter x, mark-shorter l)
  primary-shorter (is_bare_call t k l) = omega (arith, name-shorter t, mark-shorter k, mark-shorter l)
  primary-shorter (is_call t k a l) = omega (arith, name-shorter t, mark-shorter k, arguments-shorter a, mark-shorter l)

  pub arguments-shorter : {xs : List Expr} {ts rest : Tokens} → AreArguments xs ts rest → length rest < length ts
  arguments-shorter (one x) = level-shorter x
  arguments-shorter (another x k a) = omega (arith, level-shorter x, mark-shorter k, arguments-shorter a)

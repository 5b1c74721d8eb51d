use Rattle.fb_types.proofs.Common.{◌≤◌, None, Some, arith, length, nat_lt, rules}
use Rattle.std.proofs.lemmas.Option.{slice_get_past}
use Rattle.std.proofs.lemmas.List.Sorted.{IsPartitionPoint-from_clause, IsPartitionedBy-ltb}
use Rattle.fb_check.proofs.lemmas.networks.SearchLoops.{at_element}
use Rattle.fb_why.proofs.lemmas.TokenOrder.{none_at}
use Rattle.fb_why.proofs.marks.token_at.Goals as goal

pub returns-else-token-offset : goal.returns-else-token-offset
returns-else-token-offset c =
    let tokens = c.args.tokens.now in
    let offset = c.args.offset in
    let point =
    IsPartitionPoint-from_clause (λ p. nat_lt p.index offset) tokens c.partition_point-index.result c.partition_point-index.ensures.partitioned (IsPartitionedBy-ltb (λ p. p.index) tokens offset c.requires)
    (λ a r q k. search rules) in
    let at = c.in-Some.ensures.lookup in
    none_at tokens offset c.partition_point-index.result c.requires point (Some c.in-Some.token.now) (at_element tokens c.partition_point-index.result c.in-Some.token.now at.3.0 at.1) c.if-token-offset.false

pub returns-in-None : goal.returns-in-None
returns-in-None c =
    let tokens = c.args.tokens.now in
    let offset = c.args.offset in
    let point =
    IsPartitionPoint-from_clause (λ p. nat_lt p.index offset) tokens c.partition_point-index.result c.partition_point-index.ensures.partitioned (IsPartitionedBy-ltb (λ p. p.index) tokens offset c.requires)
    (λ a r q k. search rules) in
    let past : length tokens ≤ c.partition_point-index.result = first_of (search rules, omega (arith, c.in-None.ensures.lookup)) in
    none_at tokens offset c.partition_point-index.result c.requires point None (slice_get_past tokens c.partition_point-index.result past) tt

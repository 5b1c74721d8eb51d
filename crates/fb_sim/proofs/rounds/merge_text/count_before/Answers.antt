use Rattle.fb_types.proofs.Common.{rules, nat_lt}
use Rattle.std.proofs.lemmas.List.Sorted.{IsPartitionPoint-from_clause}
use Rattle.fb_sim.specs.MergedText.{until}
use Rattle.fb_sim.proofs.lemmas.text.MergedText.{parted, point_before, point_from}
use Rattle.fb_sim.proofs.rounds.merge_text.count_before.Goals as goal

pub returns-clause-before : goal.returns-clause-before
returns-clause-before c = λ up.
    let u = until c.args.cut.now c.args.index in
    let xs = c.args.list.now in
    point_before u c.partition_point.result xs (IsPartitionPoint-from_clause (λ x. nat_lt x.key.tick u) xs c.partition_point.result c.partition_point.ensures.partitioned (parted u xs up) (λ a r q k. search rules))

pub returns-clause-from : goal.returns-clause-from
returns-clause-from c = λ up.
    let u = until c.args.cut.now c.args.index in
    let xs = c.args.list.now in
    point_from u c.partition_point.result xs (IsPartitionPoint-from_clause (λ x. nat_lt x.key.tick u) xs c.partition_point.result c.partition_point.ensures.partitioned (parted u xs up) (λ a r q k. search rules))

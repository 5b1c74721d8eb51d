use Rattle.fb_window.proofs.lemmas.Common.{◌≡◌, true, length, sym, ◌∙◌, arith, nat_lt, until, edge_of}
use Rattle.fb_types.proofs.Common.{◌-◌, get_or, rules, get_or_default}
use Rattle.std.proofs.lemmas.List.Sorted.{IsPartitionPoint-from_clause}
use Rattle.fb_window.proofs.lemmas.lines.FoundLines.{parted}
use Rattle.fb_window.proofs.cut.final_count.Goals as goal

pub returns-clause-point : goal.returns-clause-point
returns-clause-point c up =
    let u = until (edge_of c.args.frontier.now) c.args.resource in
    IsPartitionPoint-from_clause (λ x. nat_lt x.key.tick u) c.args.lines.now c.partition_point.result c.partition_point.ensures.partitioned (parted u c.args.lines.now up) (λ a r q k. search rules)

-- the last line is final, so all are
pub returns-then-is_past-clause-point : goal.returns-then-is_past-clause-point
returns-then-is_past-clause-point c up =
    let u = until (edge_of c.args.frontier.now) c.args.resource in
    let xs = c.args.lines.now in
    let x = c.index-lines-count.result in
    let some = c.if-count-gt0.true in
    let last : nat_lt (get_or xs (length xs - 1) x).key.tick u ≡ true = sym c.is_past.ensures ∙ c.if-is_past.true in
    (λ k d a b. rw (get_or_default xs k d x b) (parted u xs up k (length xs - 1) x (omega (arith, some)) (omega (arith, some)) last), λ k d a b. absurd (omega arith))

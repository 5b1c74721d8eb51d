use Rattle.fb_check.proofs.lemmas.Common.{◌++◌, List, ℕ, ◌∙◌, ap, same_port, each_at}
use Rattle.fb_check_names.specs.Ends.{end_port}
use Rattle.fb_check_names.proofs.lemmas.Listing.{each_done, each_more}
use Rattle.fb_check_names.proofs.lemmas.twice.Repeating.{last_more, last_none, pair_in, pairs_are, index_in_table}
use Rattle.fb_check.specs.networks.Sources.{target}
use Rattle.fb_check.proofs.lemmas.networks.Targets.{end_agrees, end_cmp}
use Rattle.fb_check.proofs.networks.sources.target_pairs.Goals as goal

pub loop-second-init : goal.loop-second-init
loop-second-init c = (
  last_none end_cmp end_port same_port c.new-seen.result c.new-seen.ensures.empty,
  ap (λ (ps : List (ℕ × ℕ)). ps ++ each_at (pair_in same_port target c.args.connections.now) c.args.connections.now) c.new-pairs.ensures.items,
)

pub loop-second-preserved : goal.loop-second-preserved
loop-second-preserved c =
    let xs = c.args.connections.now in
    let i = c.loop-second.second in
    let x = c.index-connections-second.result in (
      last_more end_cmp end_port same_port target xs i x c.loop-second.seen c.insert.new.self c.target_of.result end_agrees c.loop-second-test.true c.index-connections-second.is c.target_of.ensures
          c.loop-second.invariant.0 c.in_ok-first.ensures.updates.0,
      each_more (pair_in same_port target xs) xs i x c.loop-second.pairs.items c.push_pair.new.pairs.items _ c.loop-second-test.true c.index-connections-second.is
          (c.in_ok-push_pair.ensures
          ∙ ap (λ (ps : List (ℕ × ℕ)). c.loop-second.pairs.items ++ ps)
          (index_in_table end_cmp end_port same_port target xs i x c.loop-second.seen c.target_of.result _ c.target_of.ensures c.loop-second.invariant.0 c.in_ok-first.ensures.old))
          c.loop-second.invariant.1,
    )

pub returns : goal.returns
returns c =
    let xs = c.args.connections.now in
    each_done (pair_in same_port target xs) xs c.loop-second.second c.loop-second.pairs.items _ c.loop-second-test.false c.loop-second.invariant.1 ∙ pairs_are same_port target xs

use Rattle.std.proofs.Common.{◌++◌, List, ℕ, ◌∙◌, ap}
use Rattle.fb_check_names.specs.Pairs.{ends_of, key_names, names_at, same_ends}
use Rattle.fb_check_names.proofs.lemmas.comparisons.ConnectionKeys.{ends_compared, key_cmp, names_agree, same_names}
use Rattle.fb_check_names.specs.Listed.{each_at}
use Rattle.fb_check_names.proofs.lemmas.Listing.{each_done, each_more}
use Rattle.fb_check_names.proofs.lemmas.twice.Repeating.{last_more, last_none, pair_in, pairs_are, pairs_same, index_in_table}
use Rattle.fb_check_names.proofs.repeats.connection_pairs.Goals as goal

pub loop-second-init : goal.loop-second-init
loop-second-init c = (last_none key_cmp key_names same_names c.new-seen.result c.new-seen.ensures.empty, ap (λ (ps : List (ℕ × ℕ)). ps ++ each_at (pair_in same_names names_at c.args.connections.now) c.args.connections.now) c.new-pairs.ensures.items)

pub loop-second-preserved : goal.loop-second-preserved
loop-second-preserved c =
    let xs = c.args.connections.now in
    let i = c.loop-second.second in
    let x = c.index-connections-second.result in (
      last_more key_cmp key_names same_names names_at xs i x c.loop-second.seen c.insert.new.self c.names_of.result names_agree c.loop-second-test.true c.index-connections-second.is c.names_of.ensures c.loop-second.invariant.0
          c.in_ok-first.ensures.updates.0,
      each_more (pair_in same_names names_at xs) xs i x c.loop-second.pairs.items c.push_pair.new.pairs.items _ c.loop-second-test.true c.index-connections-second.is
          (c.in_ok-push_pair.ensures
          ∙ ap (λ (ps : List (ℕ × ℕ)). c.loop-second.pairs.items ++ ps)
          (index_in_table key_cmp key_names same_names names_at xs i x c.loop-second.seen c.names_of.result _ c.names_of.ensures c.loop-second.invariant.0 c.in_ok-first.ensures.old))
          c.loop-second.invariant.1,
    )

pub returns : goal.returns
returns c =
    let xs = c.args.connections.now in
    each_done (pair_in same_names names_at xs) xs c.loop-second.second c.loop-second.pairs.items _ c.loop-second-test.false c.loop-second.invariant.1 ∙ pairs_same names_at ends_of same_names same_ends ends_compared xs ∙ pairs_are same_ends ends_of xs

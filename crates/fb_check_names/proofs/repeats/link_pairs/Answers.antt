use Rattle.std.proofs.Common.{◌++◌, List, ℕ, ◌∙◌, ap}
use Rattle.fb_check_names.specs.Ends.{link_ends}
use Rattle.fb_check_names.specs.Pairs.{link_names, same_sides}
use Rattle.fb_check_names.proofs.lemmas.comparisons.DecidedSame.{link_cmp}
use Rattle.fb_check_names.specs.Listed.{each_at}
use Rattle.fb_check_names.proofs.lemmas.Listing.{each_done, each_more}
use Rattle.fb_check_names.proofs.lemmas.twice.Repeating.{last_more, last_none, pair_in, pairs_are, index_in_table}
use Rattle.fb_check_names.proofs.lemmas.comparisons.SameNames.{sides_agree}
use Rattle.fb_check_names.proofs.repeats.link_pairs.Goals as goal

pub loop-second-init : goal.loop-second-init
loop-second-init c = (last_none link_cmp link_names same_sides c.new-seen.result c.new-seen.ensures.empty, ap (λ (ps : List (ℕ × ℕ)). ps ++ each_at (pair_in same_sides link_ends c.args.links.now) c.args.links.now) c.new-pairs.ensures.items)

pub loop-second-preserved : goal.loop-second-preserved
loop-second-preserved c =
    let xs = c.args.links.now in
    let i = c.loop-second.second in
    let x = c.index-links-second.result in (
      last_more link_cmp link_names same_sides link_ends xs i x c.loop-second.seen c.insert.new.self c.link_names.result sides_agree c.loop-second-test.true c.index-links-second.is c.link_names.ensures c.loop-second.invariant.0
          c.in_ok-first.ensures.updates.0,
      each_more (pair_in same_sides link_ends xs) xs i x c.loop-second.pairs.items c.push_pair.new.pairs.items _ c.loop-second-test.true c.index-links-second.is
          (c.in_ok-push_pair.ensures
          ∙ ap (λ (ps : List (ℕ × ℕ)). c.loop-second.pairs.items ++ ps)
          (index_in_table link_cmp link_names same_sides link_ends xs i x c.loop-second.seen c.link_names.result _ c.link_names.ensures c.loop-second.invariant.0 c.in_ok-first.ensures.old))
          c.loop-second.invariant.1,
    )

pub returns : goal.returns
returns c =
    let xs = c.args.links.now in
    each_done (pair_in same_sides link_ends xs) xs c.loop-second.second c.loop-second.pairs.items _ c.loop-second-test.false c.loop-second.invariant.1 ∙ pairs_are same_sides link_ends xs

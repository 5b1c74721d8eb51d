use Rattle.std.proofs.Common.{◌≡◌, ◌++◌, drop, map, take}
use Rattle.fb_check_names.specs.Listed.{each_at, each_from}
use Rattle.fb_check_names.specs.Ends.{link_ends}
use Rattle.fb_check_names.specs.Pairs.{link_names, same_sides}
use Rattle.fb_check_names.proofs.lemmas.comparisons.DecidedSame.{link_cmp}
use Rattle.fb_check_names.proofs.lemmas.twice.Repeating.{AreLast, pair_in}
use Rattle.fb_check_names.proofs.repeats.link_pairs.Given as goal

abbrev pub invariant-loop-second : goal.invariant-loop-second
invariant-loop-second l =
    AreLast link_cmp link_names same_sides (map link_ends (take l.second l.links)) l.seen
    × (l.pairs.items ++ each_from (pair_in same_sides link_ends l.links) l.second (drop l.second l.links) ≡ each_at (pair_in same_sides link_ends l.links) l.links)

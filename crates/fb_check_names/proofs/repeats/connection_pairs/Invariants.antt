use Rattle.std.proofs.Common.{◌≡◌, ◌++◌, drop, map, take}
use Rattle.fb_check_names.specs.Listed.{each_at, each_from}
use Rattle.fb_check_names.specs.Pairs.{key_names, names_at}
use Rattle.fb_check_names.proofs.lemmas.comparisons.ConnectionKeys.{key_cmp, same_names}
use Rattle.fb_check_names.proofs.lemmas.twice.Repeating.{AreLast, pair_in}
use Rattle.fb_check_names.proofs.repeats.connection_pairs.Given as goal

abbrev pub invariant-loop-second : goal.invariant-loop-second
invariant-loop-second l =
    AreLast key_cmp key_names same_names (map names_at (take l.second l.connections)) l.seen
    × (l.pairs.items ++ each_from (pair_in same_names names_at l.connections) l.second (drop l.second l.connections) ≡ each_at (pair_in same_names names_at l.connections) l.connections)

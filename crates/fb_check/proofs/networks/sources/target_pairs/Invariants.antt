use Rattle.fb_check.proofs.lemmas.Common.{◌≡◌, ◌++◌, drop, take, same_port, each_at, each_from}
use Rattle.fb_check_names.specs.Ends.{end_port}
use Rattle.fb_check_names.proofs.lemmas.twice.Repeating.{AreLast, pair_in}
use Rattle.fb_check.specs.networks.Sources.{target, targets}
use Rattle.fb_check.proofs.lemmas.networks.Targets.{end_cmp}
use Rattle.fb_check.proofs.networks.sources.target_pairs.Given as goal

abbrev pub invariant-loop-second : goal.invariant-loop-second
invariant-loop-second l =
    AreLast end_cmp end_port same_port (targets (take l.second l.connections)) l.seen
    × (l.pairs.items ++ each_from (pair_in same_port target l.connections) l.second (drop l.second l.connections) ≡ each_at (pair_in same_port target l.connections) l.connections)

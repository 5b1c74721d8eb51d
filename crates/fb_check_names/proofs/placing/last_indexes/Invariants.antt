use Rattle.fb_types.proofs.Common.{◌≡◌, ◌++◌, drop, map, take, Name, same_name}
use Rattle.std.specs.Borrow.{Bor}
use Rattle.fb_check_names.proofs.lemmas.comparisons.DecidedSame.{name_cmp}
use Rattle.fb_check_names.specs.Listed.{each_at, each_from}
use Rattle.fb_check_names.proofs.lemmas.twice.Repeating.{AreLast, pair_in}
use Rattle.fb_check_names.proofs.placing.last_indexes.Given as goal

abbrev pub invariant-loop-second : goal.invariant-loop-second
invariant-loop-second l =
    AreLast name_cmp (λ (n : Bor Name). n.now) same_name (map (λ (n : Bor Name). n.now) (take l.second l.names)) l.indexes
    × (l.again.items ++ each_from (pair_in same_name (λ (n : Bor Name). n.now) l.names) l.second (drop l.second l.names)
    ≡ l.fn.again.items ++ each_at (pair_in same_name (λ (n : Bor Name). n.now) l.names) l.names)

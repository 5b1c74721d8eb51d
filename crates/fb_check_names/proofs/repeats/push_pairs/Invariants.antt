use Rattle.std.proofs.Common.{◌≡◌, ◌++◌, drop, map}
use Rattle.fb_check_names.specs.TwiceLists.{given_in}
use Rattle.fb_check_names.proofs.repeats.push_pairs.Given as goal

abbrev pub invariant-loop-pair : goal.invariant-loop-pair
invariant-loop-pair l = l.found.items ++ map (given_in l.name_space) (drop l.pair-index l.pairs) ≡ l.fn.found.items ++ map (given_in l.name_space) l.pairs

use Rattle.std.proofs.Common.{◌≡◌, ◌++◌, drop, map}
use Rattle.fb_check.specs.networks.Sources.{two_sources_at}
use Rattle.fb_check.proofs.networks.sources.push_pairs.Given as goal

abbrev pub invariant-loop-pair : goal.invariant-loop-pair
invariant-loop-pair l = l.found.items ++ map (two_sources_at l.site) (drop l.pair-index l.pairs) ≡ l.fn.found.items ++ map (two_sources_at l.site) l.pairs

use Rattle.std.proofs.Common.{take, map, Contains}
use Rattle.fb_check.specs.networks.Links.{names_of_link}
use Rattle.fb_check.proofs.lemmas.networks.SetsOfSeen.{Has, pair_cmp, pair_view}
use Rattle.fb_check.proofs.networks.links.add_ways.Given as goal

abbrev pub invariant-loop-link : goal.invariant-loop-link
invariant-loop-link l = Has pair_cmp pair_view (Contains (map names_of_link (take l.link-index l.links))) l.ways

use Rattle.fb_check.proofs.lemmas.Common.{◌≡◌, ◌++◌, drop, each_some, sides_unless, each_at, each_from}
use Rattle.fb_check.specs.types.Present.{ends_in}
use Rattle.fb_check.proofs.types.deployment.links_of.Given as goal

abbrev pub invariant-loop-link : goal.invariant-loop-link
invariant-loop-link l =
    (l.found.items ++ each_from (sides_unless l.resources) l.link (drop l.link l.links) ≡ l.fn.found.items ++ each_at (sides_unless l.resources) l.links)
    × (l.all ++ each_some (ends_in l.resources) (drop l.link l.links) ≡ each_some (ends_in l.resources) l.links)

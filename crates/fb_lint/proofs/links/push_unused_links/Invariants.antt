use Rattle.fb_lint.proofs.lemmas.Common.{◌≡◌, ◌++◌, drop, each_from}
use Rattle.fb_lint.specs.Networks as spec
use Rattle.fb_lint.proofs.links.push_unused_links.Given as goal

-- with what is found in the rest, all is there
abbrev pub invariant-loop-link : goal.invariant-loop-link
invariant-loop-link l =
    l.all.items ++ each_from (spec.unused_link l.resources l.events l.values) l.link (drop l.link l.links) ≡ l.fn.all.items ++ each_from (spec.unused_link l.resources l.events l.values) 0 l.links

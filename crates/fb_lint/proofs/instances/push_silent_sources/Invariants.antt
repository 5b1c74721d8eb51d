use Rattle.fb_lint.proofs.lemmas.Common.{◌≡◌, ◌++◌, drop, each_from}
use Rattle.fb_lint.specs.Instances as spec
use Rattle.fb_lint.proofs.instances.push_silent_sources.Given as goal

-- with what is found in the rest, all is there
abbrev pub invariant-loop-connection : goal.invariant-loop-connection
invariant-loop-connection l =
    l.all.items ++ each_from (spec.silent_source l.site l.instances) l.connection (drop l.connection l.connections) ≡ l.fn.all.items ++ each_from (spec.silent_source l.site l.instances) 0 l.connections

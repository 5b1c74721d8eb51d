use Rattle.fb_lint.proofs.lemmas.Common.{◌≡◌, ◌++◌, drop, each_from}
use Rattle.fb_lint.specs.Interfaces as spec
use Rattle.fb_lint.proofs.interfaces.push_unused_events.Given as goal

-- with what is found in the rest, all is there
abbrev pub invariant-loop-port : goal.invariant-loop-port
invariant-loop-port l =
    l.all.items ++ each_from (spec.unused_event l.block l.events l.values) l.port (drop l.port l.ports) ≡ l.fn.all.items ++ each_from (spec.unused_event l.block l.events l.values) 0 l.ports

use Rattle.fb_lint.proofs.lemmas.Common.{◌≡◌, ◌++◌, drop, each_from}
use Rattle.fb_lint.specs.Charts as spec
use Rattle.fb_lint.proofs.charts.push_silent_outputs.Given as goal

-- with what is found in the rest, all is there
abbrev pub invariant-loop-port : goal.invariant-loop-port
invariant-loop-port l =
    l.all.items ++ each_from (spec.silent_output l.block l.states) l.port (drop l.port l.events) ≡ l.fn.all.items ++ each_from (spec.silent_output l.block l.states) 0 l.events

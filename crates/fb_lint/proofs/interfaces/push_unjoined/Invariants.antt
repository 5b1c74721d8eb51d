use Rattle.fb_lint.proofs.lemmas.Common.{◌≡◌, ◌++◌, drop, each_from}
use Rattle.fb_lint.specs.Interfaces as spec
use Rattle.fb_lint.proofs.interfaces.push_unjoined.Given as goal

-- with what is found in the rest, all is there
abbrev pub invariant-loop-port : goal.invariant-loop-port
invariant-loop-port g l =
    l.all.items ++ each_from (λ k p. spec.unjoined l.block l.port_kind l.connections k (g.T.Named.called p)) l.port (drop l.port l.ports)
    ≡ l.fn.all.items ++ each_from (λ k p. spec.unjoined l.block l.port_kind l.connections k (g.T.Named.called p)) 0 l.ports

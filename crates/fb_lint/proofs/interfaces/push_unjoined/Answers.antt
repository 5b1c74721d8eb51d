use Rattle.fb_lint.proofs.lemmas.Common.{◌++◌, Bool, not, ◌∙◌, ap, list_any, Name, when, UnusedPort}
use Rattle.fb_lint.specs.Interfaces as spec
use Rattle.fb_lint.proofs.lemmas.WarningLists.{all_found, next_found}
use Rattle.fb_lint.proofs.interfaces.push_unjoined.Goals as goal

pub loop-port-preserved : goal.loop-port-preserved
loop-port-preserved g c =
    next_found (λ k p. spec.unjoined c.args.block c.args.port_kind c.args.connections.now k (g.T.Named.called p)) c.args.ports.now c.loop-port.port c.index-ports-port.result
    c.loop-port.all.items _ _ c.loop-port-test.true c.index-ports-port.is
    (c.in_ok-push_if.ensures
    ∙ ap (λ (b : Bool). c.loop-port.all.items ++ when (not b) (UnusedPort c.args.block c.args.port_kind c.loop-port.port))
    (c.is_joined-is_unused.ensures ∙ ap (λ (n : Name). list_any (spec.joins c.args.port_kind n) c.args.connections.now) c.name.ensures))
    c.loop-port.invariant

pub returns : goal.returns
returns g c =
    all_found (λ k p. spec.unjoined c.args.block c.args.port_kind c.args.connections.now k (g.T.Named.called p)) c.args.ports.now c.loop-port.port _ _
    c.loop-port-test.false c.loop-port.invariant

use Rattle.fb_lint.proofs.lemmas.Common.{◌++◌, Bool, not, ◌∙◌, ap, when, UnusedPort}
use Rattle.fb_check_names.specs.declared.ports.PortKind.TheVariants as kind
use Rattle.fb_lint.specs.Interfaces as spec
use Rattle.fb_lint.proofs.lemmas.WarningLists.{all_found, next_found}
use Rattle.fb_lint.proofs.interfaces.push_unused_events.Goals as goal

pub loop-port-preserved : goal.loop-port-preserved
loop-port-preserved c =
    next_found (spec.unused_event c.args.block c.args.events.now c.args.values.now) c.args.ports.now c.loop-port.port c.index-ports-port.result c.loop-port.all.items _ _ c.loop-port-test.true c.index-ports-port.is
    (c.in_ok-push_if.ensures ∙ ap (λ (b : Bool). c.loop-port.all.items ++ when (not b) (UnusedPort c.args.block kind.EventInput c.loop-port.port)) c.is_event_used-is_unused.ensures)
    c.loop-port.invariant

pub returns : goal.returns
returns c = all_found (spec.unused_event c.args.block c.args.events.now c.args.values.now) c.args.ports.now c.loop-port.port _ _ c.loop-port-test.false c.loop-port.invariant

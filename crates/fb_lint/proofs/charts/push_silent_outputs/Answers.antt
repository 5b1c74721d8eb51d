use Rattle.fb_lint.proofs.lemmas.Common.{◌++◌, Bool, not, ◌∙◌, ap, when, UnusedPort}
use Rattle.fb_check_names.specs.declared.ports.PortKind.TheVariants as kind
use Rattle.fb_lint.specs.Charts as spec
use Rattle.fb_lint.proofs.lemmas.WarningLists.{all_found, next_found}
use Rattle.fb_lint.proofs.charts.push_silent_outputs.Goals as goal

pub loop-port-preserved : goal.loop-port-preserved
loop-port-preserved c =
    next_found (spec.silent_output c.args.block c.args.states.now) c.args.events.now c.loop-port.port c.index-events-port.result c.loop-port.all.items _ _ c.loop-port-test.true c.index-events-port.is
    (c.in_ok-push_if.ensures ∙ ap (λ (b : Bool). c.loop-port.all.items ++ when (not b) (UnusedPort c.args.block kind.EventOutput c.loop-port.port)) c.is_emitted-is_silent.ensures) c.loop-port.invariant

pub returns : goal.returns
returns c = all_found (spec.silent_output c.args.block c.args.states.now) c.args.events.now c.loop-port.port _ _ c.loop-port-test.false c.loop-port.invariant

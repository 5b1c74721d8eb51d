use Rattle.fb_lint.proofs.lemmas.Common.{◌++◌, Bool, not, ◌∙◌, ap, when, UnusedPort, meant_all}
use Rattle.fb_lint.specs.Reads as spec
use Rattle.fb_lint.proofs.lemmas.WarningLists.{all_found, next_found}
use Rattle.fb_lint.proofs.uses.push_unmentioned.Goals as goal

pub loop-port-preserved : goal.loop-port-preserved
loop-port-preserved c =
    next_found (spec.unmentioned c.args.block c.args.port_kind (meant_all c.args.mentions.now)) c.args.variables.now c.loop-port.port c.index-variables-port.result c.loop-port.all.items _ _ c.loop-port-test.true c.index-variables-port.is
    (c.in_ok-push_if.ensures ∙ ap (λ (b : Bool). c.loop-port.all.items ++ when (not b) (UnusedPort c.args.block c.args.port_kind c.loop-port.port)) c.is_mentioned-is_unused.ensures) c.loop-port.invariant

pub returns : goal.returns
returns c = all_found (spec.unmentioned c.args.block c.args.port_kind (meant_all c.args.mentions.now)) c.args.variables.now c.loop-port.port _ _ c.loop-port-test.false c.loop-port.invariant

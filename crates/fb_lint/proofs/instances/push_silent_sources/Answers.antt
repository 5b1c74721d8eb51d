use Rattle.fb_lint.proofs.lemmas.Common.{◌++◌, Bool, ◌∙◌, ap, when}
use Rattle.fb_lint.specs.declared.warning.Warning.TheVariants.{SilentSource}
use Rattle.fb_lint.specs.Instances as spec
use Rattle.fb_lint.proofs.lemmas.WarningLists.{all_found, next_found}
use Rattle.fb_lint.proofs.instances.push_silent_sources.Goals as goal

pub loop-connection-preserved : goal.loop-connection-preserved
loop-connection-preserved c =
    next_found (spec.silent_source c.args.site c.args.instances.now) c.args.connections.now c.loop-connection.connection c.index-connections-connection.result c.loop-connection.all.items _ _ c.loop-connection-test.true c.index-connections-connection.is
    (c.in_ok-push_if.ensures ∙ ap (λ (b : Bool). c.loop-connection.all.items ++ when b (SilentSource c.args.site c.loop-connection.connection)) c.is_silent-applies.ensures)
    c.loop-connection.invariant

pub returns : goal.returns
returns c = all_found (spec.silent_source c.args.site c.args.instances.now) c.args.connections.now c.loop-connection.connection _ _ c.loop-connection-test.false c.loop-connection.invariant

use Rattle.fb_lint.proofs.lemmas.Common.{◌++◌, Bool, ◌∙◌, ap, when}
use Rattle.fb_lint.specs.declared.warning.Warning.TheVariants.{UnreachedEvent}
use Rattle.fb_lint.specs.Instances as spec
use Rattle.fb_lint.proofs.lemmas.WarningLists.{all_found, next_found}
use Rattle.fb_lint.proofs.instances.push_unreached_events.Goals as goal

pub loop-event-preserved : goal.loop-event-preserved
loop-event-preserved c =
    next_found (spec.unreached_event c.args.at.now.site c.args.connections.now c.args.stimuli.now c.args.at.now.index c.args.at.now.instance.now c.args.inputs.now) c.args.events.now c.loop-event.event c.index-events-event.result c.loop-event.all.items _ _ c.loop-event-test.true c.index-events-event.is
    (c.in_ok-push_if.ensures ∙ ap (λ (b : Bool). c.loop-event.all.items ++ when b (UnreachedEvent c.args.at.now.site c.args.at.now.index c.loop-event.event)) c.is_forgotten-applies.ensures)
    c.loop-event.invariant

pub returns : goal.returns
returns c = all_found (spec.unreached_event c.args.at.now.site c.args.connections.now c.args.stimuli.now c.args.at.now.index c.args.at.now.instance.now c.args.inputs.now) c.args.events.now c.loop-event.event _ _ c.loop-event-test.false c.loop-event.invariant

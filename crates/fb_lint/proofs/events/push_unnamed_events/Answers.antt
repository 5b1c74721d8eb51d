use Rattle.fb_lint.proofs.lemmas.Common.{◌++◌, Bool, ◌∙◌, ap, when}
use Rattle.fb_lint.specs.declared.warning.Warning.TheVariants.{UnnamedEvent}
use Rattle.fb_lint.specs.Events as spec
use Rattle.fb_lint.proofs.lemmas.WarningLists.{all_found, next_found}
use Rattle.fb_lint.proofs.events.push_unnamed_events.Goals as goal

pub loop-event-preserved : goal.loop-event-preserved
loop-event-preserved c =
    next_found (spec.unnamed_event c.args.block c.args.basic.now) c.args.events.now c.loop-event.event c.index-events-event.result c.loop-event.all.items _ _ c.loop-event-test.true c.index-events-event.is
    (c.in_ok-push_if.ensures ∙ ap (λ (b : Bool). c.loop-event.all.items ++ when b (UnnamedEvent c.args.block c.loop-event.event)) c.in_ok-is_unnamed.ensures) c.loop-event.invariant

pub returns : goal.returns
returns c = all_found (spec.unnamed_event c.args.block c.args.basic.now) c.args.events.now c.loop-event.event _ _ c.loop-event-test.false c.loop-event.invariant

use Rattle.fb_lint.proofs.lemmas.Common.{◌++◌, Bool, ◌∙◌, ap, when, names_are}
use Rattle.fb_lint.specs.declared.warning.Warning.TheVariants.{UnassignedEvent}
use Rattle.fb_lint.specs.Reads as spec
use Rattle.fb_lint.proofs.lemmas.WarningLists.{all_found, next_found}
use Rattle.fb_lint.proofs.uses.push_unassigned_events.Goals as goal

pub loop-event-preserved : goal.loop-event-preserved
loop-event-preserved c =
    next_found (spec.unassigned_event c.args.block (names_are c.args.assigned.now)) c.args.events.now c.loop-event.event c.index-events-event.result c.loop-event.all.items _ _ c.loop-event-test.true c.index-events-event.is
    (c.in_ok-push_if.ensures ∙ ap (λ (b : Bool). c.loop-event.all.items ++ when (b) (UnassignedEvent c.args.block c.loop-event.event)) (c.is_unassigned-applies.ensures ∙ ap (spec.is_unassigned (names_are c.args.assigned.now)) c.as_slice.ensures)) c.loop-event.invariant

pub returns : goal.returns
returns c = all_found (spec.unassigned_event c.args.block (names_are c.args.assigned.now)) c.args.events.now c.loop-event.event _ _ c.loop-event-test.false c.loop-event.invariant

use Rattle.fb_types.proofs.Common.{◌∙◌, ap, map, take_all}
use Rattle.fb_types.specs.EventRows.{event_of}
use Rattle.fb_types.proofs.lemmas.lists.LoopSteps.{mapped_next}
use Rattle.fb_types.proofs.event_ports.events.Goals as goal

pub loop-name-preserved : goal.loop-name-preserved
loop-name-preserved c =
    mapped_next event_of _ _ _ _ _ _ c.loop-name-test.true c.in_ok-event.ensures c.loop-name.invariant c.in_ok-push.ensures.ok

pub returns : goal.returns
returns c = c.loop-name.invariant ∙ ap (map event_of) (take_all c.loop-name.name-index c.args.rows.now c.loop-name-test.false)

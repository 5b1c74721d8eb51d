use Rattle.fb_system.proofs.lemmas.types.EventBlocks.{each_more}
use Rattle.fb_system.proofs.event_block_with_indexes.indexes_with_each.Goals as goal

pub loop-event-preserved : goal.loop-event-preserved
loop-event-preserved c =
    each_more _ _ _ _ _ _ _ c.loop-event-test.true c.event-item.is c.loop-event.invariant c.in_ok-indexes_with.ensures c.in_ok-push.ensures.ok

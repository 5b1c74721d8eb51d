use Rattle.fb_system.proofs.lemmas.Common.{List, length, refl, sym, subst, filter, slice_get_read, Name, among, variable_names, AreIndexes}
use Rattle.fb_system.specs.Lookups.{IsList}
use Rattle.fb_system.proofs.lemmas.types.EventBlocks.{each_more}
use Rattle.fb_system.proofs.lemmas.types.WithLists.{with_event}
use Rattle.fb_system.proofs.with_indexes.indexes_of_lists.Goals as goal

pub indexes_of_list-requires-clause-list : goal.indexes_of_list-requires-clause-list
indexes_of_list-requires-clause-list c =
    let there = slice_get_read c.args.events.now (length c.args.events.now) c.loop-event.event-index c.event-item.result refl c.loop-event-test.true c.event-item.is in
    subst (λ (list : List Name). IsList c.args.variables.now list) (sym c.as_slice.ensures)
    (c.requires.events.lists c.loop-event.event-index c.event-item.result there)

pub loop-event-preserved : goal.loop-event-preserved
loop-event-preserved c =
    let vs = c.args.variables.now in
    let there = slice_get_read c.args.events.now (length c.args.events.now) c.loop-event.event-index c.event-item.result refl c.loop-event-test.true c.event-item.is in
    let indexes = subst (λ (list : List Name). AreIndexes vs (filter (among list) (variable_names vs)) c.in_ok-indexes_of_list.field-0) c.as_slice.ensures c.in_ok-indexes_of_list.ensures in
    each_more _ vs _ c.event-item.result _ _ _ c.loop-event-test.true c.event-item.is c.loop-event.invariant
    (with_event c.args.events.now vs c.loop-event.event-index c.event-item.result _ c.requires.events there indexes)
    c.in_ok-push.ensures.ok

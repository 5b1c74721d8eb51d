use Rattle.fb_check.proofs.lemmas.Common.{names_of_kind, unknown_variables}
use Rattle.fb_check_names.proofs.lemmas.Listing.{each_done, each_more}
use Rattle.fb_check.proofs.types.charts.push_in_events.Goals as goal

pub loop-event-preserved : goal.loop-event-preserved
loop-event-preserved c =
    each_more (unknown_variables (names_of_kind c.args.port_kind c.args.interface.now.ports) c.args.block c.args.direction) c.args.events.now c.loop-event.event c.index-events-event.result c.loop-event.found.items c.push_variables.new.found.items _
    c.loop-event-test.true c.index-events-event.is c.in_ok-push_variables.ensures c.loop-event.invariant

pub returns : goal.returns
returns c = each_done (unknown_variables (names_of_kind c.args.port_kind c.args.interface.now.ports) c.args.block c.args.direction) c.args.events.now c.loop-event.event c.loop-event.found.items _ c.loop-event-test.false c.loop-event.invariant

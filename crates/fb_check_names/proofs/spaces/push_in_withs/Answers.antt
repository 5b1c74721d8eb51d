use Rattle.fb_types.proofs.Common.{◌++◌, List, ◌∙◌, ap, Name}
use Rattle.fb_check_names.specs.TwiceLists.{names_twice, with_twice}
use Rattle.fb_check_names.specs.declared.repeats.NameSpace.TheVariants as space
use Rattle.fb_check_names.proofs.lemmas.twice.Repeating.{map_itself}
use Rattle.fb_check_names.proofs.lemmas.Listing.{each_done, each_more}
use Rattle.fb_check_names.proofs.spaces.push_in_withs.Goals as goal

pub loop-event-preserved : goal.loop-event-preserved
loop-event-preserved c =
    each_more (with_twice c.args.block c.args.direction) c.args.events.now c.loop-event.event c.index-events-event.result c.loop-event.found.items c.called_indexes.new.found.items _
    c.loop-event-test.true c.index-events-event.is
    (c.in_ok-called_indexes.ensures.found
    ∙ ap (λ (ns : List Name). c.loop-event.found.items ++ names_twice (space.With c.args.block c.args.direction c.loop-event.event) ns) (map_itself c.as_slice.result.now ∙ c.as_slice.ensures))
    c.loop-event.invariant

pub returns : goal.returns
returns c = each_done (with_twice c.args.block c.args.direction) c.args.events.now c.loop-event.event c.loop-event.found.items _ c.loop-event-test.false c.loop-event.invariant

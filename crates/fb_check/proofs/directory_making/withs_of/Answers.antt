use Rattle.fb_check.proofs.lemmas.Common.{List, refl, subst, take_all, EventPort, AreWiths}
use Rattle.fb_check.proofs.lemmas.FilledByName.{withs_none, withs_more}
use Rattle.fb_check.proofs.directory_making.withs_of.Goals as goal

pub loop-event-init : goal.loop-event-init
loop-event-init c = withs_none _ c.new-withs.ensures.empty

pub loop-event-preserved : goal.loop-event-preserved
loop-event-preserved c =
    withs_more _ _ _ _ _ _ _ c.loop-event-test.true c.event-item.is refl c.as_slice.ensures c.loop-event.invariant c.in_ok-extend.ensures

pub returns : goal.returns
returns c =
    let P : List EventPort → Type 0 = λ es. AreWiths es c.loop-event.withs in
    subst P (take_all c.loop-event.event-index c.args.events.now c.loop-event-test.false) c.loop-event.invariant

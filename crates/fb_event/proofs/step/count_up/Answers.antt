use Rattle.fb_event.proofs.lemmas.Performing.{count_full}
use Rattle.fb_event.proofs.step.count_up.Goals as goal

pub returns-then-count : goal.returns-then-count
returns-then-count c =
    let step = c.silent-then-count in
    count_full c.args.memory c.in-Count.count c.args.event c.in-Count.reached c.args.input step.result c.if-event-eq-R_OF_COUNT_UP.false c.in-Count.is c.if-count.true
    c.requires step.ensures.emits step.ensures.ask

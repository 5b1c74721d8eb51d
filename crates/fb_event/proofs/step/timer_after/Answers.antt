use Rattle.fb_event.specs.Block.{as_time}
use Rattle.fb_event.specs.Seen.{seen_memory}
use Rattle.fb_event.proofs.lemmas.Performing.{timer_kept, timer_stopped}
use Rattle.fb_event.proofs.step.timer_after.Goals as goal

pub returns-then-event-ne-START : goal.returns-then-event-ne-START
returns-then-event-ne-START c = timer_stopped (seen_memory c.args.memory) c.args.event c.args.tick (as_time c.args.input) c.if-event-ne-START.true

pub returns-in-Running : goal.returns-in-Running
returns-in-Running c =
    timer_kept c.args.memory _ c.args.event c.args.tick (as_time c.args.input) c.if-event-ne-START.false c.in-Running.is c.requires.running

use Rattle.std.proofs.Common.{refl}
use Rattle.fb_event.proofs.lemmas.Performing.{cycled}
use Rattle.fb_event.proofs.step.restart_cycle.Goals as goal

pub returns-in-Running : goal.returns-in-Running
returns-in-Running c = cycled c.args.memory c.args.tick c.in-Running.time _ c.requires.running c.in-Running.is refl refl

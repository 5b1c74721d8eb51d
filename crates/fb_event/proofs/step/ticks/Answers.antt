use Rattle.std.proofs.Common.{to_z-of_z}
use Rattle.fb_event.proofs.lemmas.Performing.{below_one}
use Rattle.fb_event.proofs.step.ticks.Goals as goal

pub returns-then-time-lt1-clause-value : goal.returns-then-time-lt1-clause-value
returns-then-time-lt1-clause-value c = below_one c.args.time (rw (to_z-of_z c.ranges.time) at c.if-time-lt1.true)

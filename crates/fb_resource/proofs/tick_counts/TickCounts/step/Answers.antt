use Rattle.std.proofs.Common.{refl}
use Rattle.fb_resource.proofs.lemmas.Meters.{other_tick, step_afresh}
use Rattle.fb_resource.proofs.tick_counts.TickCounts.step.Goals as goal

pub returns-then-ne-clause-used : goal.returns-then-ne-clause-used
returns-then-ne-clause-used c = step_afresh c.args.limit c.args.tick c.args.self.now (other_tick c.args.self.now.tick c.args.tick c.if-ne.ensures) c.if-limit-eq0.false

pub returns-then-ne-clause-tick : goal.returns-then-ne-clause-tick
returns-then-ne-clause-tick c = refl

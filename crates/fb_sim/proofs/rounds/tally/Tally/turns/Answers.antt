use Rattle.std.proofs.Common.{arith}
use Rattle.fb_sim.proofs.rounds.tally.Tally.turns.Goals as goal

pub returns-then-is_light : goal.returns-then-is_light
returns-then-is_light c = omega arith

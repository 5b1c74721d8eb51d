use Rattle.std.proofs.Common.{refl, arith}
use Rattle.std.proofs.lemmas.Nat.{mul-le}
use Rattle.fb_sim.proofs.with_progress.hundredth.Goals as goal

pub returns-clause-value : goal.returns-clause-value
returns-clause-value c = refl

pub returns-clause-early : goal.returns-clause-early
returns-clause-early c = omega (arith, mul-le c.args.horizon c.args.count c.args.horizon 100 (omega arith) c.requires.count)

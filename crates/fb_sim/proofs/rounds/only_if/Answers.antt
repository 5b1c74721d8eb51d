use Rattle.std.proofs.Common.{refl}
use Rattle.fb_sim.proofs.rounds.only_if.Goals as goal

pub returns-then-is_used : goal.returns-then-is_used
returns-then-is_used g c = rw c.if-is_used.true refl

pub returns-else-is_used : goal.returns-else-is_used
returns-else-is_used g c = rw c.if-is_used.false refl

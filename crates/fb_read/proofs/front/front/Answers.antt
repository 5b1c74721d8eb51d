use Rattle.fb_types.proofs.Common.{arith, common_steps}
use Rattle.fb_read.proofs.front.front.Goals as goal

pub returns-in-Some-clause-within : goal.returns-in-Some-clause-within
returns-in-Some-clause-within c = grind (arith, common_steps)

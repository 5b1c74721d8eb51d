use Rattle.fb_types.proofs.Common.{arith, ints}
use Rattle.fb_inputs.proofs.number.negative.Goals as goal

pub returns-else-magnitude-eq0 : goal.returns-else-magnitude-eq0
returns-else-magnitude-eq0 c = omega (arith, ints)

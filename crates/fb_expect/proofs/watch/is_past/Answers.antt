use Rattle.fb_types.proofs.Common.{arith, ltb-true, lt-ltb}
use Rattle.fb_expect.proofs.watch.is_past.Goals as goal

pub returns : goal.returns
returns c = (λ yes. omega (arith, ltb-true _ _ yes), λ past. lt-ltb _ _ (omega (arith, past)))

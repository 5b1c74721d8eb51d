use Rattle.fb_system.proofs.lemmas.Common.{take, AreNarrow}
use Rattle.fb_system.proofs.making.bound_all.Given as goal

abbrev pub invariant-loop-block : goal.invariant-loop-block
invariant-loop-block l = AreNarrow (take l.block-index l.blocks)

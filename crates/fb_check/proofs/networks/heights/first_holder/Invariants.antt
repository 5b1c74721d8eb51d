use Rattle.fb_check.proofs.lemmas.Common.{take, All, HoldsNone}
use Rattle.fb_check.proofs.networks.heights.first_holder.Given as goal

abbrev pub invariant-loop-block : goal.invariant-loop-block
invariant-loop-block l = All (HoldsNone l.marks) (take l.block l.blocks)

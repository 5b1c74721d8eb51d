use Rattle.fb_net.proofs.lemmas.Common.{take, HoldsAll}
use Rattle.fb_net.proofs.taking.bring.hold_each.Given as goal

abbrev pub invariant-loop-item : goal.invariant-loop-item
invariant-loop-item l = HoldsAll l.system l.initial.forest (take l.item-index l.carried) l.forest

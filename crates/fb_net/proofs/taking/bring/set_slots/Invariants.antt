use Rattle.fb_net.proofs.lemmas.Common.{take, system_of, Changes}
use Rattle.fb_net.proofs.lemmas.blocks.Changing.{one_by_one, value_set}
use Rattle.fb_net.proofs.taking.bring.set_slots.Given as goal

abbrev pub invariant-loop-set : goal.invariant-loop-set
invariant-loop-set l =
    Changes l.system l.initial.forest l.instance (one_by_one (value_set (system_of l.system) l.instance) (take l.set-index l.sets)) l.forest

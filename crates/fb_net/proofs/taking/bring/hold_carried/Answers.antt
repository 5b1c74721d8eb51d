use Rattle.fb_net.proofs.lemmas.Common.{List, subst, sym, Carried, HoldsAll}
use Rattle.fb_net.proofs.lemmas.blocks.Changing.{holds_one}
use Rattle.fb_net.proofs.taking.bring.hold_carried.Goals as goal

pub returns-in-Ok : goal.returns-in-Ok
returns-in-Ok c =
    subst (λ (l : List Carried). HoldsAll c.args.system.now c.args.forest.now l c.hold.new.self) (sym c.in-Ok.ensures.one) (holds_one c.in-Ok.item c.hold.ensures)

use Rattle.fb_net.proofs.lemmas.blocks.Changing.{holds_more}
use Rattle.fb_net.proofs.taking.bring.hold_each.Goals as goal

pub loop-item-preserved : goal.loop-item-preserved
loop-item-preserved c =
    holds_more c.args.carried.now c.loop-item.item-index _ c.loop-item.invariant c.loop-item-test.true c.hold.ensures

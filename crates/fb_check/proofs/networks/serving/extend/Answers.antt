use Rattle.std.proofs.Common.{refl}
use Rattle.fb_check.proofs.lemmas.networks.CarriedData.{extended_none, extended_more}
use Rattle.fb_check.proofs.networks.serving.extend.Goals as goal

pub loop-name-init : goal.loop-name-init
loop-name-init c = extended_none _ _ _

pub loop-name-preserved : goal.loop-name-preserved
loop-name-preserved c =
    extended_more c.args.component _ _ _ c.args.resource _ _ _ (record { ref_ptr = (0, 0); now = c.name-item.result }) c.loop-name-test.true c.name-item.is refl c.loop-name.invariant c.in_ok-insert.ensures.updates.0

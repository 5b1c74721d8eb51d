use Rattle.std.proofs.Common.{refl}
use Rattle.fb_check.proofs.lemmas.FilledByName.{at_name, extended_none, extended_more}
use Rattle.fb_check.proofs.directory_making.extend.Goals as goal

pub loop-variable-init : goal.loop-variable-init
loop-variable-init c = extended_none _ _

pub loop-variable-preserved : goal.loop-variable-preserved
loop-variable-preserved c =
    extended_more _ _ _ _ _ _ _ (c.args.event, at_name c.variable-item.result) c.loop-variable-test.true c.variable-item.is refl refl c.loop-variable.invariant
    c.in_ok-insert.ensures.updates.0

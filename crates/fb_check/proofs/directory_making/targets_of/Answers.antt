use Rattle.std.proofs.Common.{refl}
use Rattle.fb_check.proofs.lemmas.FilledByName.{at_name, targets_kept, targets_more}
use Rattle.fb_check.proofs.directory_making.targets_of.Goals as goal
use Rattle.fb_check.proofs.directory_making.targets_of.Goals.{in-Some+in_ok-insert, in_default}

pub loop-connection-preserved : goal.loop-connection-preserved
loop-connection-preserved c =
    elim c.match-connection.branch [
      | in-Some+in_ok-insert w ↦
          rw w.targets-is
          (targets_more _ _ _ w.in-Some.component c.loop-connection.targets _ (at_name w.in-Some.component, at_name c.connection-item.result.to.port) c.loop-connection-test.true c.connection-item.is
          w.in-Some.is refl refl c.loop-connection.invariant w.in_ok-insert.ensures.updates.0)
      | in_default w ↦
          rw w.targets-is (targets_kept _ _ _ c.loop-connection.targets c.loop-connection-test.true c.connection-item.is w.in_default.is c.loop-connection.invariant)
    ]

-- Several threads may read one system.
use denote.Param.Send.{IsSync, view_sync, recorded_send, recorded_sync, struct_sync}
use denote.Struct.Declared.{shape}
use Rattle.std.proofs.Crossing.{Arc-sync}
use Rattle.fb_system.specs.contracts.whole.Whole as Whole
use Rattle.fb_system.specs.contracts.system.System as System
use Rattle.fb_system.specs.contracts.system.System.TheInside as I
use Rattle.fb_resource.proofs.lemmas.Sends.{whole_send, whole_sync}

pub system_sync : IsSync System.the_row
system_sync =
    let whole = recorded_send (Whole.the_field).row _ _ (Whole.the_type).to_one whole_send in
    let whole_seen = recorded_sync (Whole.the_field).row _ _ (Whole.the_type).to_one whole_sync in
    view_sync I.the_row _ _ _ _
    (recorded_sync (I.the_field).row _ _ (I.the_type).to_one (struct_sync (shape I.the_type) (Arc-sync Whole.the_row whole whole_seen, tt)))

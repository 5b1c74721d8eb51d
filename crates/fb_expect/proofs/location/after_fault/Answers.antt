use Rattle.toml.specs.View.{table_view}
use Rattle.fb_expect.specs.Locations.{IsFault}
use Rattle.fb_expect.proofs.lemmas.documents.Locating.{one_of}
use Rattle.fb_expect.proofs.location.after_fault.Goals as goal

pub returns : goal.returns
returns c =
    let first = one_of (IsFault (table_view c.args.keys.now)) c.key_fault.result c.either_fault.result c.or.result c.or.ensures c.key_fault.ensures c.either_fault.ensures in
    one_of (IsFault (table_view c.args.keys.now)) c.or.result c.pairing_fault.result c.or-2.result c.or-2.ensures first c.pairing_fault.ensures

use Rattle.toml.specs.View.{table_view}
use Rattle.fb_expect.specs.Locations.{IsFault}
use Rattle.fb_expect.proofs.lemmas.documents.Locating.{one_of}
use Rattle.fb_expect.proofs.location.count_fault.Goals as goal

pub returns : goal.returns
returns c =
    let first = one_of (IsFault (table_view c.args.keys.now)) c.kind_fault.result c.kind_fault-2.result c.or.result c.or.ensures c.kind_fault.ensures c.kind_fault-2.ensures in
    one_of (IsFault (table_view c.args.keys.now)) c.or.result c.either_fault.result c.or-2.result c.or-2.ensures first c.either_fault.ensures

use Rattle.toml.specs.View.{table_view}
use Rattle.fb_expect.specs.Locations.{IsFault}
use Rattle.fb_expect.proofs.lemmas.documents.Locating.{one_of}
use Rattle.fb_expect.proofs.location.pairing_fault.Goals as goal

pub returns : goal.returns
returns c = one_of (IsFault (table_view c.args.keys.now)) c.kind_fault.result c.kind_fault-2.result c.or.result c.or.ensures c.kind_fault.ensures c.kind_fault-2.ensures

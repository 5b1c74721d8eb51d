use Rattle.toml.specs.View.{table_view}
use Rattle.fb_expect.specs.Locations.{IsFault}
use Rattle.fb_expect.proofs.lemmas.documents.Locating.{one_of}
use Rattle.fb_expect.proofs.location.rest_fault.Goals as goal

pub returns-in-Before : goal.returns-in-Before
returns-in-Before c = one_of (IsFault (table_view c.args.keys.now)) c.key_fault.result c.key_fault-in-Before.result c.or.result c.or.ensures c.key_fault.ensures c.key_fault-in-Before.ensures

pub returns-in-Never : goal.returns-in-Never
returns-in-Never c =
    one_of (IsFault (table_view c.args.keys.now)) c.kind_fault.result c.kind_fault-in-Never.result c.or-in-Never.result c.or-in-Never.ensures c.kind_fault.ensures c.kind_fault-in-Never.ensures

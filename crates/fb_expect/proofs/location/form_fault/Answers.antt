use Rattle.toml.specs.View.{table_view}
use Rattle.fb_expect.specs.Locations.{IsFault}
use Rattle.fb_expect.proofs.lemmas.documents.Locating.{the_one}
use Rattle.fb_expect.proofs.location.form_fault.Goals as goal

pub returns-in-Some : goal.returns-in-Some
returns-in-Some c =
    the_one (IsFault (table_view c.args.keys.now)) c.kind_fault.result c.rest_fault.result c.or.result c.in-Some.fault c.in-Some.is c.or.ensures c.kind_fault.ensures c.rest_fault.ensures

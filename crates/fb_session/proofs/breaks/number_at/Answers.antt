use Rattle.fb_types.proofs.Common.{system_of}
use Rattle.fb_expect.specs.Events.{event_of}
use Rattle.fb_session.proofs.lemmas.HittingIs.{hit_lost, hit_some}
use Rattle.fb_session.proofs.breaks.number_at.Goals as goal

pub returns-in-Some : goal.returns-in-Some
returns-in-Some c = λ i l is.
    hit_some event_of (system_of i) c.args.set.now l c.args.text.now is c.read_entry.result c.in-Some.entry c.number_for.result c.in-Some.is c.read_entry.ensures.line c.read_entry.ensures.only c.number_for.ensures

pub returns-in-None : goal.returns-in-None
returns-in-None c = λ i l is. hit_lost event_of (system_of i) c.args.set.now l c.args.text.now is c.read_entry.result c.in-None.is c.read_entry.ensures.only

use Rattle.fb_why.proofs.lemmas.TextReadings.{finds}
use Rattle.fb_why.proofs.find.text_refusal.Goals as goal

pub returns-in-Ok : goal.returns-in-Ok
returns-in-Ok c = (c.in-Ok.library, c.in-Ok.ensures.declared)

pub returns-in-Err-Refused : goal.returns-in-Err-Refused
returns-in-Err-Refused c = finds c.args.text.now c.in-Err-Refused.refusal c.shown-place.result (rw c.in-Err-Refused.field-0-is at c.in-Err-Refused.ensures.refused) c.shown-place.ensures.place c.shown-place.ensures.shown

pub returns-in-Err-Memory : goal.returns-in-Err-Memory
returns-in-Err-Memory c = tt

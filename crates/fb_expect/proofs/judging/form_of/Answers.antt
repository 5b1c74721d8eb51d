use Rattle.std.proofs.Common.{◌≡◌, Option, Some, None, ap, sym}
use Rattle.std.specs.Prelude.{is_some}
use Rattle.std.proofs.lemmas.Bool.{true≢false}
use Rattle.fb_expect.specs.Events.{Event, event_of}
use Rattle.fb_expect.proofs.judging.form_of.Goals as goal

pub returns-in-Some : goal.returns-in-Some
returns-in-Some c = (event_of c.in-Some.field-0, c.in-Some.ensures.line)

pub returns-in-None : goal.returns-in-None
returns-in-None c = λ e line. true≢false (sym (ap (λ (o : Option Event). is_some o) (c.in-None.ensures.only e line)))

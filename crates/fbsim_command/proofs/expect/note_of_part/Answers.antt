use Rattle.fbsim_command.proofs.lemmas.Common.{Some, None, ap, refl, string_bytes, subst, sym}
use Rattle.fb_expect.specs.declared.parting.PartFault.{PartFault}
use Rattle.fbsim_command.specs.Comparing.{NotesUnread, SaysPart}
use Rattle.fbsim_command.proofs.lemmas.notes.Noting.{unasked}
use Rattle.fbsim_command.proofs.expect.note_of_part.Goals as goal

pub returns-then-not-diff : goal.returns-then-not-diff
returns-then-not-diff c = unasked c.args.diff.now.why c.if-not-diff.true

pub returns-in-Memory : goal.returns-in-Memory
returns-in-Memory c = λ asked. subst (λ (f : PartFault). SaysPart c.args.diff.now f None) (sym c.in-Memory.is) refl

pub returns-in_ok-note_of_rest-in-First : goal.returns-in_ok-note_of_rest-in-First
returns-in_ok-note_of_rest-in-First c =
    subst (λ (f : PartFault). NotesUnread c.args.diff.now f (Some (string_bytes c.in_ok-note_of_rest-in-First.field-0))) (sym c.in-First.is) (c.if-not-diff.false, ap Some c.in_ok-note_of_rest-in-First.ensures)

pub returns-in_ok-note_of_rest-in-Second : goal.returns-in_ok-note_of_rest-in-Second
returns-in_ok-note_of_rest-in-Second c =
    subst (λ (f : PartFault). NotesUnread c.args.diff.now f (Some (string_bytes c.in_ok-note_of_rest-in-Second.field-0))) (sym c.in-Second.is) (c.if-not-diff.false, ap Some c.in_ok-note_of_rest-in-Second.ensures)

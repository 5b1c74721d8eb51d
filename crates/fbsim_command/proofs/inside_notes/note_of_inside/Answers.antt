use Rattle.fbsim_command.proofs.lemmas.Common.{noted_of}
use Rattle.fbsim_command.specs.InsideNotes.{SaysInside}
use Rattle.fbsim_command.proofs.lemmas.notes.Noting.{asked-for, unasked}
use Rattle.fbsim_command.proofs.inside_notes.note_of_inside.Goals as goal

pub returns-then-why : goal.returns-then-why
returns-then-why c = asked-for c.args.why (SaysInside c.args.system.now c.args.refused.now c.args.front.now c.args.line) (noted_of c.inside_note.result) c.if-why.true c.inside_note.ensures

pub returns-else-why : goal.returns-else-why
returns-else-why c = unasked c.args.why c.if-why.false

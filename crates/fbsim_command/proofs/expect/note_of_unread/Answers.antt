use Rattle.fbsim_command.proofs.lemmas.Common.{Some, ap}
use Rattle.fbsim_command.proofs.lemmas.notes.Noting.{unasked}
use Rattle.fbsim_command.proofs.expect.note_of_unread.Goals as goal

pub returns-then-not-expect : goal.returns-then-not-expect
returns-then-not-expect c = unasked c.args.expect.now.why c.if-not-expect.true

pub returns : goal.returns
returns c = (c.if-not-expect.false, ap Some c.in_ok-note_of_rest.ensures)

use Rattle.fbsim_command.proofs.lemmas.Common.{Some, ap}
use Rattle.fbsim_command.proofs.lemmas.notes.Noting.{unasked}
use Rattle.fbsim_command.proofs.coverage.note_of_unread.Goals as goal

pub returns-then-not-coverage : goal.returns-then-not-coverage
returns-then-not-coverage c = unasked c.args.coverage.now.why c.if-not-coverage.true

pub returns : goal.returns
returns c = (c.if-not-coverage.false, ap Some c.in_ok-note_of_rest.ensures)

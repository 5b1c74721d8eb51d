use Rattle.fbsim_command.proofs.lemmas.Common.{noted_of, refl}
use Rattle.fbsim_command.proofs.lemmas.rules.HeldRules.{end-noted, error-unnoted}
use Rattle.fbsim_command.proofs.expect.note_of_fault.Goals as goal

pub returns-in-Read : goal.returns-in-Read
returns-in-Read c = end-noted c.args.expect.now.why c.args.name.now c.args.error.now (noted_of c.note_of_unread.result) c.in-Read.is c.note_of_unread.ensures

pub returns-in_default : goal.returns-in_default
returns-in_default c = error-unnoted c.args.expect.now.why c.args.name.now c.args.error.now _ c.in_default.not-Read refl

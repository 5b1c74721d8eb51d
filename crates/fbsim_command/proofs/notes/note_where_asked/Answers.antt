use Rattle.fbsim_command.proofs.lemmas.Common.{SaysUnread, noted_of}
use Rattle.fbsim_command.proofs.lemmas.notes.Noting.{asked-for, unasked}
use Rattle.fbsim_command.proofs.notes.note_where_asked.Goals as goal

pub returns-then-why : goal.returns-then-why
returns-then-why c = asked-for c.args.why (SaysUnread c.args.word.now c.args.name.now c.args.fault) (noted_of c.note_of_name.result) c.if-why.true c.note_of_name.ensures

pub returns-else-why : goal.returns-else-why
returns-else-why c = unasked c.args.why c.if-why.false

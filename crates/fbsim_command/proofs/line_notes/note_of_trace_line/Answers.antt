use Rattle.fbsim_command.proofs.lemmas.Common.{noted_of}
use Rattle.fbsim_command.proofs.lemmas.notes.NotedLines.{written-noted, written-unnoted}
use Rattle.fbsim_command.proofs.lemmas.notes.Noting.{unasked}
use Rattle.fbsim_command.proofs.line_notes.note_of_trace_line.Goals as goal

pub returns-then-not-why : goal.returns-then-not-why
returns-then-not-why c = unasked c.args.why c.if-not-why.true

pub returns-in-Some : goal.returns-in-Some
returns-in-Some c =
    written-noted c.args.why c.args.system.now c.args.current.now c.args.written.now c.refused_at.result c.in-Some.line (noted_of c.line_note.result) c.refused_at.ensures c.in-Some.is c.if-not-why.false c.line_note.ensures

pub returns-in-None : goal.returns-in-None
returns-in-None c = written-unnoted c.args.why c.args.system.now c.args.current.now c.args.written.now c.refused_at.result c.refused_at.ensures c.in-None.is

use Rattle.fbsim_command.proofs.lemmas.Common.{noted_of}
use Rattle.fbsim_command.proofs.lemmas.notes.NotedLines.{gone-noted, gone-unnoted}
use Rattle.fbsim_command.proofs.inside_notes.note_of_gone.Goals as goal

pub returns-in-Some : goal.returns-in-Some
returns-in-Some c =
    gone-noted c.args.why c.args.system.now c.args.refused.now c.args.gone.now c.refused_at.result c.in-Some.line (noted_of c.note_of_inside.result) c.refused_at.ensures c.in-Some.is c.note_of_inside.ensures

pub returns-in-None : goal.returns-in-None
returns-in-None c = gone-unnoted c.args.why c.args.system.now c.args.refused.now c.args.gone.now c.refused_at.result c.refused_at.ensures c.in-None.is

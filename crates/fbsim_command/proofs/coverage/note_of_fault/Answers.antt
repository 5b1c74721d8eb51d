use Rattle.fbsim_command.proofs.lemmas.Common.{noted_of, refl}
use Rattle.fbsim_command.proofs.lemmas.calls.CoverageCalls.{end-noted, refusal-noted, walk-unnoted}
use Rattle.fbsim_command.proofs.coverage.note_of_fault.Goals as goal

pub returns-in-Refused : goal.returns-in-Refused
returns-in-Refused c =
    refusal-noted c.args.system.now c.args.coverage.now c.args.name.now c.args.refused.now c.args.error.now c.in-Refused.line (noted_of c.note_of_refusal.result) c.in-Refused.is c.note_of_refusal.ensures

pub returns-in-Read : goal.returns-in-Read
returns-in-Read c = end-noted c.args.system.now c.args.coverage.now c.args.name.now c.args.refused.now c.args.error.now (noted_of c.note_of_unread.result) c.in-Read.is c.note_of_unread.ensures

pub returns-in_default : goal.returns-in_default
returns-in_default c = walk-unnoted c.args.system.now c.args.coverage.now c.args.name.now c.args.refused.now c.args.error.now _ c.in_default.not-Refused c.in_default.not-Read refl

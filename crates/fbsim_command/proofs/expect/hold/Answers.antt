use Rattle.fbsim_command.proofs.lemmas.Common.{subst, sym, noted_of, IsUnheld}
use Rattle.fbsim_command.proofs.lemmas.rules.HeldRules.{failed-at, held-one, unopened}
use Rattle.fbsim_command.proofs.expect.hold.Goals as goal

pub returns-in-Err-clause-unheld : goal.returns-in-Err-clause-unheld
returns-in-Err-clause-unheld g c =
    let note = noted_of c.note_where_asked.result in
    subst (IsUnheld g.S.Streams.opens c.args.expect.now c.args.source.now c.open.new.self c.args.name.now note) (sym c.from.ensures)
    (unopened g.S.Streams.opens c.args.expect.now c.args.source.now c.open.new.self c.args.name.now note c.in-Err.fault c.in-Err.ensures c.note_where_asked.ensures)

pub returns-in-Ok-judge-clause-held : goal.returns-in-Ok-judge-clause-held
returns-in-Ok-judge-clause-held g c =
    held-one g.S.Streams.opens c.args.expect.now c.args.rules.now c.args.source.now c.open.new.self c.args.name.now _ c.cut_of.result c.in-Ok-judge.judged.items c.cut_of.ensures
    c.in-Ok.ensures c.in-Ok-judge.ensures.judged

pub returns-clause-unheld : goal.returns-clause-unheld
returns-clause-unheld g c =
    failed-at g.S.Streams.opens c.args.expect.now c.cut_of.result c.args.source.now c.open.new.self c.args.name.now _ (noted_of c.note_of_fault.result) c.judge.result c.in-Err-judge.error
    c.failure_of_trace.result c.in-Ok.ensures c.cut_of.ensures c.in-Err-judge.is c.judge.ensures.refused c.note_of_fault.ensures c.failure_of_trace.ensures

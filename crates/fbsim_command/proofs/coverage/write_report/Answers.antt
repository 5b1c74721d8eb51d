use Rattle.fbsim_command.proofs.lemmas.Common.{noted_of}
use Rattle.fbsim_command.proofs.lemmas.calls.CoverageCalls.{may-stop, refused, reported, unreported, unwritten, written}
use Rattle.fbsim_command.proofs.lemmas.names.ReadNames.{read-names}
use Rattle.fbsim_command.proofs.coverage.write_report.Goals as goal

pub report-reported-requires-clause-names : goal.report-reported-requires-clause-names
report-reported-requires-clause-names g c = read-names c.args.inputs.now c.in_ok-system.system c.in_ok-system.ensures.system

pub returns-in_err-system : goal.returns-in_err-system
returns-in_err-system g c =
    let note = noted_of c.args.note.now in
    unreported g.S.Streams.opens c.args.inputs.now c.args.coverage.now c.args.source.now c.args.source.now (g.W.Write.contents c.args.out.now) note c.from_residual.result _
    c.from_residual.ensures.1 (refused g.S.Streams.opens c.args.inputs.now c.args.coverage.now c.args.source.now note c.in_err-system.field-0.0 c.requires c.in_err-system.ensures.refused)

pub returns-in_err-text : goal.returns-in_err-text
returns-in_err-text g c =
    let note = noted_of c.report-reported.new.note in
    unreported g.S.Streams.opens c.args.inputs.now c.args.coverage.now c.args.source.now c.report-reported.new.source (g.W.Write.contents c.args.out.now) note c.from_residual-in_err-text.result _
    c.from_residual-in_err-text.ensures.1
    (may-stop g.S.Streams.opens c.args.inputs.now c.args.coverage.now c.in_ok-system.system c.args.source.now c.report-reported.new.source note _ c.in_ok-system.ensures.system c.in_err-text.ensures.stopped)

pub returns-in_err-write_text : goal.returns-in_err-write_text
returns-in_err-write_text g c =
    unwritten g.S.Streams.opens c.args.inputs.now c.args.coverage.now c.args.source.now c.report-reported.new.source (g.W.Write.contents c.args.out.now) _ (noted_of c.report-reported.new.note) c.in_ok-text.text.items _ _
    c.from_residual-in_err-write_text.result _ c.in_ok-text.ensures.unnoted
    (reported g.S.Streams.opens c.args.inputs.now c.args.coverage.now c.in_ok-system.system c.args.source.now c.report-reported.new.source c.in_ok-text.text.items c.in_ok-text.is_too_little
    c.in_ok-system.ensures.system c.in_ok-text.ensures.report)
    c.as_slice.ensures.value c.from_residual-in_err-write_text.ensures.1 c.in_err-write_text.ensures.part

pub returns : goal.returns
returns g c =
    written g.S.Streams.opens c.args.inputs.now c.args.coverage.now c.args.source.now c.report-reported.new.source (g.W.Write.contents c.args.out.now) (g.W.Write.contents c.write_text.new.out)
    (noted_of c.report-reported.new.note) c.in_ok-text.text.items _ c.in_ok-text.is_too_little c.end_by.result c.in_ok-text.ensures.unnoted
    (reported g.S.Streams.opens c.args.inputs.now c.args.coverage.now c.in_ok-system.system c.args.source.now c.report-reported.new.source c.in_ok-text.text.items c.in_ok-text.is_too_little
    c.in_ok-system.ensures.system c.in_ok-text.ensures.report)
    c.as_slice.ensures.value c.in_ok-write_text.ensures.whole c.end_by.ensures

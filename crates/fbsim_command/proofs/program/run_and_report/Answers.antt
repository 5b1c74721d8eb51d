use Rattle.std.proofs.Common.{false}
use Rattle.fbsim_command.proofs.lemmas.calls.Reporting.{has_reported, none_failed, runs_so}
use Rattle.fbsim_command.proofs.program.run_and_report.Goals as goal

pub returns-clause-run : goal.returns-clause-run
returns-clause-run g c =
    let run = c.run_with_progress-end in
    runs_so false c.args.inputs.now c.args.options (g.W.Write.contents c.args.out.now) (g.W.Write.contents run.new.out) run.result.end c.end_of_run.result c.end_of_run.ensures run.ensures.trace run.ensures.failed

pub returns-clause-reported : goal.returns-clause-reported
returns-clause-reported g c =
    let run = c.run_with_progress-end in
    has_reported c.args.inputs.now c.args.options (g.W.Write.contents c.args.out.now) (g.W.Write.contents run.new.out) run.result.end c.end_of_run.result run.result.is_heard
    (g.E.Write.contents c.args.err.now) (g.E.Write.contents run.new.err) c.end_of_run.ensures run.ensures.reported

pub end_of_run-requires : goal.end_of_run-requires
end_of_run-requires g c =
    let run = c.run_with_progress-end in
    none_failed c.args.inputs.now c.args.options (g.W.Write.contents c.args.out.now) (g.W.Write.contents run.new.out) run.result.end run.ensures.failed

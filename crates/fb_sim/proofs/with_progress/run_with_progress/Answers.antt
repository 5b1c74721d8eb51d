use Rattle.std.proofs.Common.{rules}
use Rattle.fb_sim.proofs.lemmas.runs.Ending.{fails_if, no_reports, reports_of}
use Rattle.fb_sim.proofs.with_progress.run_with_progress.Goals as goal

pub returns-in-Ok-clause-failed : goal.returns-in-Ok-clause-failed
returns-in-Ok-clause-failed g c =
    fails_if c.args.inputs.now c.in-Ok.opened.inputs c.args.options (g.W.Write.contents c.args.out.now) (g.W.Write.contents c.go_through.new.out) c.go_through.result.end
    (c.are_within.ensures.0 (search rules)) c.in-Ok.ensures.opened.declared c.go_through.ensures.ends

pub returns-in-Ok-clause-reported : goal.returns-in-Ok-clause-reported
returns-in-Ok-clause-reported g c =
    reports_of c.args.inputs.now c.in-Ok.opened.inputs c.args.options (g.W.Write.contents c.args.out.now) (g.W.Write.contents c.go_through.new.out) (g.E.Write.contents c.args.err.now)
    (g.E.Write.contents c.go_through.new.err) c.go_through.result.is_heard c.go_through.result.end c.in-Ok.ensures.opened.declared c.go_through.ensures.ends c.go_through.ensures.reported

pub returns-in-Err-clause-reported : goal.returns-in-Err-clause-reported
returns-in-Err-clause-reported g c =
    no_reports c.args.inputs.now c.args.options (g.W.Write.contents c.args.out.now) (g.E.Write.contents c.args.err.now) c.in-Err.error c.in-Err.ensures.failed

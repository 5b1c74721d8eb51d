use Rattle.fb_sim.proofs.lemmas.Common.{rules, FailsRun}
use Rattle.fb_sim.proofs.lemmas.rounds.RunIs.{err_is, fails_open}
use Rattle.fb_sim.proofs.runs.run_with_clock.Goals as goal

pub returns-in_err-system-clause-failed : goal.returns-in_err-system-clause-failed
returns-in_err-system-clause-failed g c =
    let o = c.args.options in
    let given = c.args.inputs.now in
    let old = g.W.Write.contents c.args.out.now in
    err_is (FailsRun given o old old) c.from_residual.result c.in_err-system.field-0.0 c.from_residual.ensures.1
    (fails_open given o (c.are_within.ensures.0 (search rules)) old c.in_err-system.field-0.0 c.in_err-system.ensures.refused)

pub returns-clause-trace : goal.returns-clause-trace
returns-clause-trace g c = c.run_workers.ensures.trace c.args.inputs.now c.in_ok-system.ensures.system

pub returns-clause-failed : goal.returns-clause-failed
returns-clause-failed g c = c.run_workers.ensures.failed c.args.inputs.now c.in_ok-system.ensures.system

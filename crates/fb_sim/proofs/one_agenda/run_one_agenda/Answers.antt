use Rattle.fb_sim.proofs.lemmas.Common.{Memory, FailsRun}
use Rattle.fb_trace.specs.End as trace
use Rattle.fb_sim.proofs.lemmas.rounds.RunIs.{err_is, fails_at, fails_on, fails_wanting, writes_all}
use Rattle.fb_sim.proofs.one_agenda.run_one_agenda.Goals as goal

pub returns-in_err-machine-clause-failed : goal.returns-in_err-machine-clause-failed
returns-in_err-machine-clause-failed g c given is =
    let o = c.args.options in
    let old = g.W.Write.contents c.args.out.now in
    err_is (FailsRun given o old old) c.from_residual.result Memory c.from_residual.ensures.1 (fails_wanting given o c.requires old)

pub returns-in_err-end-clause-failed : goal.returns-in_err-end-clause-failed
returns-in_err-end-clause-failed g c given is =
    let o = c.args.options in
    let old = g.W.Write.contents c.args.out.now in
    let new = g.W.Write.contents c.run_through.new.out in
    let e = c.in_err-end.field-0.0 in
    err_is (FailsRun given o old new) c.from_residual-in_err-end.result e c.from_residual-in_err-end.ensures.1
    (fails_on given o c.args.system.now c.requires is old new e c.in_err-end.ensures.failed)

pub returns-in_err-close-clause-failed : goal.returns-in_err-close-clause-failed
returns-in_err-close-clause-failed g c given is =
    let o = c.args.options in
    let old = g.W.Write.contents c.args.out.now in
    let mid = g.W.Write.contents c.run_through.new.out in
    let new = g.W.Write.contents c.close.new.out in
    let e = c.in_err-close.field-0.0 in
    let ran = c.in_ok-end.ensures.ran in
    err_is (FailsRun given o old new) c.from_residual-in_err-close.result e c.from_residual-in_err-close.ensures.1
    (fails_at given o c.args.system.now c.requires is c.in_ok-end.written old mid new (trace.ending_of c.in_ok-end.end) ran.out ran.all ran.got ran.counted e c.in_err-close.ensures.part)

pub returns-clause-trace : goal.returns-clause-trace
returns-clause-trace g c given is =
    let o = c.args.options in
    let old = g.W.Write.contents c.args.out.now in
    let mid = g.W.Write.contents c.run_through.new.out in
    let new = g.W.Write.contents c.close.new.out in
    let ran = c.in_ok-end.ensures.ran in
    writes_all given o c.args.system.now c.requires is old mid new ran.out (trace.ending_of c.in_ok-end.end) ran.all ran.got c.in_ok-close.ensures.whole

pub run_through-requires-clause-ready : goal.run_through-requires-clause-ready
run_through-requires-clause-ready g c = c.in_ok-machine.ensures.ready c.args.options.steps

use Rattle.fb_sim.proofs.lemmas.Common.{arith, subst, sym, Appends, system_of, last_line, Outcome, RunError, Memory, FailsRun}
use Rattle.fb_trace.specs.End.{ending_of}
use Rattle.fb_sim.specs.Rounds.{IsShort}
use Rattle.fb_sim.proofs.lemmas.rounds.RunIs.{ended, ended_short, err_is, fails_on, fails_wanting, stop_counted}
use Rattle.fb_sim.proofs.runs.run_rounds.Goals as goal

pub run_first-requires-clause-options : goal.run_first-requires-clause-options
run_first-requires-clause-options g c κs w =
    let o = c.requires in
    let few = c.workers_on-workers.ensures.few in
    let most = o.workers_most in
    record {
      horizon_least = o.horizon_least;
      horizon_most = o.horizon_most;
      steps_least = o.steps_least;
      steps_most = o.steps_most;
      workers_least = c.workers_on-workers.ensures.some;
      workers_most = omega arith;
    }

pub run_first-requires-clause-come : goal.run_first-requires-clause-come
run_first-requires-clause-come g c κs w = c.in_ok-core.ensures c.args.options.horizon

pub run_rest-requires-clause-options : goal.run_rest-requires-clause-options
run_rest-requires-clause-options g c κs w =
    let o = c.requires in
    let few = c.workers_on-workers.ensures.few in
    let most = o.workers_most in
    record {
      horizon_least = o.horizon_least;
      horizon_most = o.horizon_most;
      steps_least = o.steps_least;
      steps_most = o.steps_most;
      workers_least = c.workers_on-workers.ensures.some;
      workers_most = omega arith;
    }

pub returns-in_err-first_rounds-clause-failed : goal.returns-in_err-first_rounds-clause-failed
returns-in_err-first_rounds-clause-failed g c given is =
    let o = c.args.options in
    let old = g.W.Write.contents c.args.out.now in
    let e = c.in_err-first_rounds.field-0.0 in
    err_is (FailsRun given o old old) c.from_residual-in_err-first_rounds.result e c.from_residual-in_err-first_rounds.ensures.1
    (subst (λ (f : RunError). FailsRun given o old old f) (sym c.in_err-first_rounds.ensures.memory) (fails_wanting given o c.requires old))

pub returns-in_err-is_quicker-clause-failed : goal.returns-in_err-is_quicker-clause-failed
returns-in_err-is_quicker-clause-failed g c given is =
    let o = c.args.options in
    let old = g.W.Write.contents c.args.out.now in
    err_is (FailsRun given o old old) c.from_residual-in_err-is_quicker.result Memory c.from_residual-in_err-is_quicker.ensures.1 (fails_wanting given o c.requires old)

pub returns-in_err-core-clause-failed : goal.returns-in_err-core-clause-failed
returns-in_err-core-clause-failed g c given is =
    let o = c.args.options in
    let old = g.W.Write.contents c.args.out.now in
    err_is (FailsRun given o old old) c.from_residual.result Memory c.from_residual.ensures.1
    (fails_wanting given o c.requires old)

pub returns-in_err-finish-clause-failed : goal.returns-in_err-finish-clause-failed
returns-in_err-finish-clause-failed g c given is =
    let o = c.args.options in
    let old = g.W.Write.contents c.args.out.now in
    let new = g.W.Write.contents c.run_rest.new.out in
    let e = c.in_err-finish.field-0.0 in
    err_is (FailsRun given o old new) c.from_residual-in_err-finish.result e c.from_residual-in_err-finish.ensures.1
    (fails_on given o c.args.system.now c.requires is old new e
    c.in_err-finish.ensures)

pub close-requires : goal.close-requires
close-requires g c =
    let i = c.args.system.now in
    let o = c.args.options in
    let old = g.W.Write.contents c.args.out.now in
    let mid = g.W.Write.contents c.run_rest.new.out in
    rw c.outcome_of-end.ensures
    (stop_counted i o c.in_ok-finish.finish c.in_ok-finish.written old mid c.in_ok-finish.ensures)

pub returns-in_err-close-clause-failed : goal.returns-in_err-close-clause-failed
returns-in_err-close-clause-failed g c given is =
    let i = c.args.system.now in
    let o = c.args.options in
    let old = g.W.Write.contents c.args.out.now in
    let mid = g.W.Write.contents c.run_rest.new.out in
    let new = g.W.Write.contents c.close.new.out in
    let e = c.in_err-close.field-0.0 in
    err_is (FailsRun given o old new) c.from_residual-in_err-close.result e c.from_residual-in_err-close.ensures.1
    (ended_short given o i c.requires is c.in_ok-finish.finish c.in_ok-finish.written old mid new c.in_ok-finish.ensures e
    (subst (λ (x : Outcome). IsShort mid new (last_line (system_of i) (ending_of x)) c.in_ok-finish.written.bytes e) c.outcome_of-end.ensures c.in_err-close.ensures.part))

pub returns-clause-trace : goal.returns-clause-trace
returns-clause-trace g c given is =
    let i = c.args.system.now in
    let o = c.args.options in
    let old = g.W.Write.contents c.args.out.now in
    let mid = g.W.Write.contents c.run_rest.new.out in
    let new = g.W.Write.contents c.close.new.out in
    rw c.outcome_of-end.ensures
    (ended given o i c.requires is c.in_ok-finish.finish c.in_ok-finish.written old mid new c.in_ok-finish.ensures
    (subst (λ (x : Outcome). Appends mid new (last_line (system_of i) (ending_of x))) c.outcome_of-end.ensures c.in_ok-close.ensures.whole))

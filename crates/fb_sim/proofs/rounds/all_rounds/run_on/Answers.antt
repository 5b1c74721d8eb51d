use Rattle.fb_sim.proofs.lemmas.Common.{arith, AreGood, RunsOn, Ended, Stopped}
use Rattle.fb_sim.proofs.lemmas.rounds.RunIs.{came_early, came_failed, came_first, came_last, came_last_failed, came_more, err_passed, ran_to_end, ran_to_mark}
use Rattle.fb_sim.proofs.rounds.all_rounds.run_on.Goals as goal

pub loop-init : goal.loop-init
loop-init g c = record {
  some = c.requires.options.workers_least;
  few = c.requires.options.workers_most;
  some_ticks = omega arith;
  few_ticks = omega arith;
  early = omega arith;
  came = λ ls h. came_first c.args.system.now c.args.options ls c.args.first c.none-unwritten.result _ c.none-unwritten.ensures.lists c.none-unwritten.ensures.count c.none-unwritten.ensures.texts h;
}

pub round_with_counts-requires-clause-options : goal.round_with_counts-requires-clause-options
round_with_counts-requires-clause-options g c κs w =
    let o = c.requires.options in
    record {
      horizon_least = o.horizon_least;
      horizon_most = o.horizon_most;
      steps_least = o.steps_least;
      steps_most = o.steps_most;
      workers_least = c.loop.invariant.some;
      workers_most = c.loop.invariant.few;
    }

pub round_with_counts-requires-clause-holds : goal.round_with_counts-requires-clause-holds
round_with_counts-requires-clause-holds g c κs w =
    let came = c.loop.invariant.came c.requires.come.0 c.requires.come.1 in
    (_, came.holds)

-- one round more
pub loop-preserved : goal.loop-preserved
loop-preserved g c = record {
  some = c.workers-workers.ensures.some;
  few = c.workers-workers.ensures.few;
  some_ticks = c.ticks-ticks.ensures.some;
  few_ticks = c.ticks-ticks.ensures.few;
  early =
      let came = c.loop.invariant.came c.requires.come.0 c.requires.come.1 in
      let early =
      came_early c.args.system.now c.args.options c.requires.come.0 c.loop.round_state.core c.loop.round_state.unwritten _ _ _ c.loop.written c.loop.counter came c.in-Going.core c.in-Ok.unwritten c.in-Ok.tally
      (rw c.in-Going.is at c.in-Ok.ensures _ came.holds) c.args.alloc in
      omega (arith, early);
  came =
      λ ls h.
      let came = c.loop.invariant.came ls h in
      rw c.with-written.ensures
      (came_more c.args.system.now c.args.options ls c.loop.round_state.core c.loop.round_state.unwritten _ _ _ c.loop.written c.loop.counter came c.in-Going.core c.in-Ok.unwritten c.in-Ok.tally
      (rw c.in-Going.is at c.in-Ok.ensures _ came.holds));
}

pub returns-in-Err : goal.returns-in-Err
returns-in-Err g c ls h =
    let came = c.loop.invariant.came ls h in
    let good : AreGood c.args.system.now = record { accepted = c.facts.ensures.accepted; limits = c.facts.ensures.limits } in
    rw c.with_written.ensures
    (came_failed c.args.system.now c.args.options ls c.loop.round_state.core c.loop.round_state.unwritten _ _ _ c.loop.written c.loop.counter came good c.args.alloc c.loop.workers c.in-Err.error (c.in-Err.ensures _ came.holds))

-- ---- The last lines

pub write_unwritten-requires : goal.write_unwritten-requires
write_unwritten-requires g c =
    let came = c.loop.invariant.came c.requires.come.0 c.requires.come.1 in
    let round = c.in-Ok.ensures _ came.holds in
    round.5.belong

pub returns-in_err-all-in-Ended : goal.returns-in_err-all-in-Ended
returns-in_err-all-in-Ended g c ls h =
    let came = c.loop.invariant.came ls h in
    let e = c.in_err-all-in-Ended.field-0.0 in
    let good : AreGood c.args.system.now = record { accepted = c.facts.ensures.accepted; limits = c.facts.ensures.limits } in
    err_passed (RunsOn c.args.system.now c.args.options ls (g.W.Write.contents c.args.out.now) (g.W.Write.contents c.write_unwritten.new.out)) _ e c.from_residual.ensures.1
    (came_last_failed c.args.system.now c.args.options ls c.loop.round_state.core c.loop.round_state.unwritten _ _ (g.W.Write.contents c.round_with_counts.new.out) c.loop.written c.loop.counter came (Ended c.in-Ended.last) c.in-Ok.unwritten c.in-Ok.tally
    (rw c.in-Ended.is at c.in-Ok.ensures _ came.holds) good _ e (rw c.with-written.ensures at c.in_err-all-in-Ended.ensures.failed))

pub returns-in-Ended : goal.returns-in-Ended
returns-in-Ended g c ls h =
    let came = c.loop.invariant.came ls h in
    ran_to_end c.args.system.now c.args.options ls c.in-Ended.last _ _ _
    (came_last c.args.system.now c.args.options ls c.loop.round_state.core c.loop.round_state.unwritten _ _ (g.W.Write.contents c.round_with_counts.new.out) c.loop.written c.loop.counter came (Ended c.in-Ended.last) c.in-Ok.unwritten c.in-Ok.tally
    (rw c.in-Ended.is at c.in-Ok.ensures _ came.holds) _ _ (rw c.with-written.ensures at c.in_ok-all-in-Ended.ensures.whole))

pub write_unwritten-requires-in-Stopped : goal.write_unwritten-requires-in-Stopped
write_unwritten-requires-in-Stopped g c =
    let came = c.loop.invariant.came c.requires.come.0 c.requires.come.1 in
    let round = c.in-Ok.ensures _ came.holds in
    round.5.belong

pub returns-in_err-all-in-Stopped : goal.returns-in_err-all-in-Stopped
returns-in_err-all-in-Stopped g c ls h =
    let came = c.loop.invariant.came ls h in
    let e = c.in_err-all-in-Stopped.field-0.0 in
    let good : AreGood c.args.system.now = record { accepted = c.facts.ensures.accepted; limits = c.facts.ensures.limits } in
    err_passed (RunsOn c.args.system.now c.args.options ls (g.W.Write.contents c.args.out.now) (g.W.Write.contents c.write_unwritten-in-Stopped.new.out)) _ e c.from_residual-in_err-all-in-Stopped.ensures.1
    (came_last_failed c.args.system.now c.args.options ls c.loop.round_state.core c.loop.round_state.unwritten _ _ (g.W.Write.contents c.round_with_counts.new.out) c.loop.written c.loop.counter came (Stopped c.in-Stopped.mark) c.in-Ok.unwritten c.in-Ok.tally
    (rw c.in-Stopped.is at c.in-Ok.ensures _ came.holds) good _ e (rw c.with-written.ensures at c.in_err-all-in-Stopped.ensures.failed))

pub returns-in-Stopped : goal.returns-in-Stopped
returns-in-Stopped g c ls h =
    let came = c.loop.invariant.came ls h in
    ran_to_mark c.args.system.now c.args.options ls c.in-Stopped.mark _ _ _
    (came_last c.args.system.now c.args.options ls c.loop.round_state.core c.loop.round_state.unwritten _ _ (g.W.Write.contents c.round_with_counts.new.out) c.loop.written c.loop.counter came (Stopped c.in-Stopped.mark) c.in-Ok.unwritten c.in-Ok.tally
    (rw c.in-Stopped.is at c.in-Ok.ensures _ came.holds) _ _ (rw c.with-written.ensures at c.in_ok-all-in-Stopped.ensures.whole))

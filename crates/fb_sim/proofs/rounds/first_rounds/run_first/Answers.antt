use Rattle.fb_sim.proofs.lemmas.Common.{◌≡◌, [], Some, arith, AtEnd, AtMark, Going, Ended, Stopped}
use Rattle.fb_sim.proofs.lemmas.rounds.FirstRounds.{leg_going, leg_over}
use Rattle.fb_sim.proofs.lemmas.rounds.RunIs.{came_early, came_first, came_last, came_more, ran_to_end, ran_to_mark}
use Rattle.fb_sim.proofs.rounds.first_rounds.run_first.Goals as goal

pub loop-init : goal.loop-init
loop-init g c = record {
  some = c.requires.options.workers_least;
  few = c.requires.options.workers_most;
  some_ticks = omega arith;
  few_ticks = omega arith;
  early = omega arith;
  came = came_first c.args.system.now c.args.options [] c.args.first c.none-unwritten.result _ c.none-unwritten.ensures.lists c.none-unwritten.ensures.count c.none-unwritten.ensures.texts c.requires.come;
}

pub round_with_counts-requires-clause-options : goal.round_with_counts-requires-clause-options
round_with_counts-requires-clause-options g c κs w =
    let o = c.requires.options in
    record {
      horizon_least = o.horizon_least;
      horizon_most = o.horizon_most;
      steps_least = o.steps_least;
      steps_most = o.steps_most;
      workers_least = c.loop.invariant.some;
      workers_most = c.loop.invariant.few;
    }

pub round_with_counts-requires-clause-holds : goal.round_with_counts-requires-clause-holds
round_with_counts-requires-clause-holds g c κs w = (_, c.loop.invariant.came.holds)

-- one round more
pub loop-preserved : goal.loop-preserved
loop-preserved g c = record {
  some = c.workers-workers.ensures.some;
  few = c.workers-workers.ensures.few;
  some_ticks = c.ticks-ticks.ensures.some;
  few_ticks = c.ticks-ticks.ensures.few;
  early =
      let came = c.loop.invariant.came in
      let early =
      came_early c.args.system.now c.args.options [] c.loop.round_state.core c.loop.round_state.unwritten _ _ (Some c.round_with_counts.new.out.items) c.loop.written c.loop.counter came c.in-Going.core c.in-Ok.unwritten c.in-Ok.tally
      (rw c.in-Going.is at c.in-Ok.ensures _ came.holds) c.args.alloc in
      omega (arith, early);
  came =
      let came = c.loop.invariant.came in
      let text : c.make_room.new.text.items ≡ c.round_with_counts.new.out.items = c.make_room.ensures in
      rw text
      (rw c.with-written.ensures
      (came_more c.args.system.now c.args.options [] c.loop.round_state.core c.loop.round_state.unwritten _ _ (Some c.round_with_counts.new.out.items) c.loop.written c.loop.counter came c.in-Going.core c.in-Ok.unwritten c.in-Ok.tally
      (rw c.in-Going.is at c.in-Ok.ensures _ came.holds)));
}

-- ---- The last lines

pub put_unwritten-requires : goal.put_unwritten-requires
put_unwritten-requires g c =
    let came = c.loop.invariant.came in
    let round = c.in-Ok.ensures _ came.holds in
    round.5.belong

pub returns-then-is_over-clause-first_rounds : goal.returns-then-is_over-clause-first_rounds
returns-then-is_over-clause-first_rounds g c =
    let came = c.loop.invariant.came in
    let last =
    came_last c.args.system.now c.args.options [] c.loop.round_state.core c.loop.round_state.unwritten _ _ (Some c.round_with_counts.new.out.items) c.loop.written c.loop.counter came (Going c.in-Going.core) c.in-Ok.unwritten c.in-Ok.tally
    (rw c.in-Going.is at c.in-Ok.ensures _ came.holds) _ _ (rw c.with-written.ensures at c.in_ok-all-in-Going.ensures.whole) in
    leg_going c.args.system.now c.args.options c.in-Going.core _ _ _ c.requires.text last

pub put_unwritten-requires-in-Ended : goal.put_unwritten-requires-in-Ended
put_unwritten-requires-in-Ended g c =
    let came = c.loop.invariant.came in
    let round = c.in-Ok.ensures _ came.holds in
    round.5.belong

pub returns-in-Ended-clause-first_rounds : goal.returns-in-Ended-clause-first_rounds
returns-in-Ended-clause-first_rounds g c =
    let came = c.loop.invariant.came in
    let last =
    came_last c.args.system.now c.args.options [] c.loop.round_state.core c.loop.round_state.unwritten _ _ (Some c.round_with_counts.new.out.items) c.loop.written c.loop.counter came (Ended c.in-Ended.last) c.in-Ok.unwritten c.in-Ok.tally
    (rw c.in-Ended.is at c.in-Ok.ensures _ came.holds) _ _ (rw c.with-written.ensures at c.in_ok-all-in-Ended.ensures.whole) in
    leg_over c.args.system.now c.args.options (AtEnd c.in-Ended.last) _ _ _ c.requires.text (ran_to_end c.args.system.now c.args.options [] c.in-Ended.last _ _ _ last)

pub put_unwritten-requires-in-Stopped : goal.put_unwritten-requires-in-Stopped
put_unwritten-requires-in-Stopped g c =
    let came = c.loop.invariant.came in
    let round = c.in-Ok.ensures _ came.holds in
    round.5.belong

pub returns-in-Stopped-clause-first_rounds : goal.returns-in-Stopped-clause-first_rounds
returns-in-Stopped-clause-first_rounds g c =
    let came = c.loop.invariant.came in
    let last =
    came_last c.args.system.now c.args.options [] c.loop.round_state.core c.loop.round_state.unwritten _ _ (Some c.round_with_counts.new.out.items) c.loop.written c.loop.counter came (Stopped c.in-Stopped.mark) c.in-Ok.unwritten c.in-Ok.tally
    (rw c.in-Stopped.is at c.in-Ok.ensures _ came.holds) _ _ (rw c.with-written.ensures at c.in_ok-all-in-Stopped.ensures.whole) in
    leg_over c.args.system.now c.args.options (AtMark c.in-Stopped.mark) _ _ _ c.requires.text (ran_to_mark c.args.system.now c.args.options [] c.in-Stopped.mark _ _ _ last)

use Rattle.fb_sim.proofs.lemmas.Common.{◌<◌, ◌≤◌, arith, subst, sym, Line, tick_of}
use Rattle.fb_sim.proofs.lemmas.text.MergedText.{end_early, end_late, more_early, more_late, past_early, past_late}
use Rattle.fb_sim.proofs.rounds.merge_text.early_count.Goals as goal

pub returns-then-list-count-clause-early : goal.returns-then-list-count-clause-early
returns-then-list-count-clause-early c =
    let i = c.loop-count.invariant in
    let x = c.index-list-count.result in
    let over : c.args.tick < tick_of x = subst (λ (z : Line). c.args.tick < tick_of z) (sym c.index-list-count.is) c.if-list-count.true in
    past_early c.args.tick c.loop-count.count c.args.list.now i.early i.late x c.loop-count-test.true c.index-list-count.is over

pub returns-then-list-count-clause-late : goal.returns-then-list-count-clause-late
returns-then-list-count-clause-late c =
    let i = c.loop-count.invariant in
    let x = c.index-list-count.result in
    let over : c.args.tick < tick_of x = subst (λ (z : Line). c.args.tick < tick_of z) (sym c.index-list-count.is) c.if-list-count.true in
    past_late c.args.tick c.loop-count.count c.args.list.now i.early i.late x c.loop-count-test.true c.index-list-count.is over

pub loop-count-preserved : goal.loop-count-preserved
loop-count-preserved c =
    let i = c.loop-count.invariant in
    let x = c.index-list-count.result in
    let under : tick_of x ≤ c.args.tick = subst (λ (z : Line). tick_of z ≤ c.args.tick) (sym c.index-list-count.is) c.if-list-count.false in
    record {
      within = omega (arith, i.within, c.loop-count-test.true);
      early = more_early c.args.tick c.loop-count.count c.args.list.now i.early i.late x c.loop-count-test.true c.index-list-count.is under;
      late = more_late c.args.tick c.loop-count.count c.args.list.now i.early i.late x c.loop-count-test.true c.index-list-count.is under;
    }

pub returns-clause-early : goal.returns-clause-early
returns-clause-early c = let i = c.loop-count.invariant in end_early c.args.tick c.loop-count.count c.args.list.now i.early i.late (omega (arith, c.loop-count-test.false))

pub returns-clause-late : goal.returns-clause-late
returns-clause-late c = let i = c.loop-count.invariant in end_late c.args.tick c.loop-count.count c.args.list.now i.early i.late (omega (arith, c.loop-count-test.false))

use Rattle.fb_types.proofs.Common.{◌+◌, drop, get_or, arith, drop_all, drop_more}
use Rattle.fb_trace.specs.declared.marks.Mark.{Mark}
use Rattle.fb_sim.proofs.lemmas.text.Cutting.{all_passed, more_passed, none_passed, past_passed}
use Rattle.fb_sim.proofs.rounds.join_texts.passed.Goals as goal

abbrev no_mark : Mark
no_mark = record { tick = 0; end = 0 }

pub loop-count-init : goal.loop-count-init
loop-count-init c = record {
  within = omega arith;
  passing = λ i form lines h. none_passed i form c.args.tick c.args.before lines c.args.marks.now h;
}

pub returns-then-mark-tick-clause-passed : goal.returns-then-mark-tick-clause-passed
returns-then-mark-tick-clause-passed c = λ i form lines h.
    let ms = c.args.marks.now in
    let k = c.loop-count.count in
    past_passed i form c.args.tick c.args.before lines c.loop-count.end (drop k ms) (c.loop-count.invariant.passing i form lines h) (get_or ms k no_mark) (drop (k + 1) ms)
    (drop_more ms k no_mark c.loop-count-test.true) c.if-mark-tick.true

pub loop-count-preserved : goal.loop-count-preserved
loop-count-preserved c =
    let ms = c.args.marks.now in
    let k = c.loop-count.count in
    record {
      within = let w = c.loop-count-test.true in omega (arith, w);
      passing = λ i form lines h.
          more_passed i form c.args.tick c.args.before lines c.loop-count.end (drop k ms) (c.loop-count.invariant.passing i form lines h) (get_or ms k no_mark) (drop (k + 1) ms)
          (drop_more ms k no_mark c.loop-count-test.true) c.if-mark-tick.false;
    }

pub returns-clause-passed : goal.returns-clause-passed
returns-clause-passed c = λ i form lines h.
    let ms = c.args.marks.now in
    let k = c.loop-count.count in
    all_passed i form c.args.tick c.args.before lines c.loop-count.end (drop k ms) (c.loop-count.invariant.passing i form lines h) (drop_all k ms c.loop-count-test.false)

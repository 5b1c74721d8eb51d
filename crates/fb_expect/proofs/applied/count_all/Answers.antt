use Rattle.std.proofs.Common.{◌∙◌, length-set}
use Rattle.fb_expect.proofs.lemmas.Common.{arith, refl}
use Rattle.fb_expect.proofs.lemmas.rules.AppliedCounts.{counted, one-done, rest-left}
use Rattle.fb_expect.proofs.applied.count_all.Goals as goal

pub loop-index-preserved : goal.loop-index-preserved
loop-index-preserved c =
    let l = c.loop-index in
    let rs = c.args.rules.now in
    let js = c.args.judged.now in
    record {
      same = length-set l.counts l.index c.count_on.result ∙ l.invariant.same;
      done =
          one-done rs js c.args.counts.now l.counts l.index _ _ c.count_on.result (omega (arith, c.loop-index-test.true, c.min-index-end.ensures)) refl c.count_on.ensures l.invariant.same l.invariant.done l.invariant.rest;
      rest = rest-left c.args.counts.now l.counts l.index c.count_on.result l.invariant.rest;
    }

pub returns : goal.returns
returns c = λ all room each is.
    let l = c.loop-index in
    counted all c.args.rules.now c.args.judged.now c.args.counts.now l.counts l.index room each is l.invariant.same (omega (arith, c.min-index-end.ensures, l.auto.index-end, c.loop-index-test.false)) l.invariant.done

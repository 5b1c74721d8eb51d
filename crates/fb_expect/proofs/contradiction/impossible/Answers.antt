use Rattle.std.proofs.Common.{take, sym, ◌∙◌}
use Rattle.fb_expect.proofs.lemmas.patterns.Contradicting.{judged-before, next-has}
use Rattle.fb_expect.proofs.contradiction.impossible.Goals as goal
use Rattle.fb_expect.proofs.contradiction.impossible.Goals.{else-not-is_on-via-then-not-is_on+else-not-has_value, else-not-is_on-via-else-not-is_on}

pub loop-index-preserved : goal.loop-index-preserved
loop-index-preserved c =
    let cs = c.args.conditions.now in
    let i = c.loop-index.index in
    let one = c.index-conditions-index.result in
    next-has cs i one c.loop-index-test.true c.index-conditions-index.is c.loop-index.invariant.before c.loop-index.invariant.rest
    (elim c.else-not-is_on.branch [
      | else-not-is_on-via-then-not-is_on+else-not-has_value w ↦ sym w.has_value.ensures ∙ w.if-not-has_value.false
      | else-not-is_on-via-else-not-is_on w ↦ judged-before cs (take i cs) one.variable c.loop-index.invariant.before (sym c.is_on.ensures ∙ w.if-not-is_on.false)
    ])

use Rattle.fb_expect.proofs.lemmas.Common.{sym, subst, arith, both_ways, Watch}
use Rattle.fb_expect.specs.Watching.{CountsOn}
use Rattle.fb_expect.proofs.lemmas.rules.Stepping.{count-more, count-next, count-none}
use Rattle.fb_expect.proofs.watch.count_on.Goals as goal

pub returns-then-is_over : goal.returns-then-is_over
returns-then-is_over c =
    subst (λ (w : Watch). CountsOn c.args.most c.args.window c.args.before c.args.line c.args.hit w) (sym c.broken.ensures)
    (count-more c.args.most c.args.window c.args.before c.saturating_add-count.result c.args.line c.args.hit c.if-hit.true
    (λ n number le. let sum = c.saturating_add-count.ensures in let most = c.ranges.line.fits in omega (arith, sum, most, number, le))
    (c.is_over.ensures.0 c.if-is_over.true))

pub returns-else-is_over : goal.returns-else-is_over
returns-else-is_over c =
    count-next c.args.most c.args.window c.args.before c.saturating_add-count.result c.args.line c.args.hit c.if-hit.true
    (λ n number le. let sum = c.saturating_add-count.ensures in let most = c.ranges.line.fits in omega (arith, sum, most, number, le))
    (λ over. both_ways c.is_over.result c.if-is_over.false (c.is_over.ensures.1 over))

pub returns-else-hit : goal.returns-else-hit
returns-else-hit c = count-none c.args.most c.args.window c.args.before c.args.line c.args.hit c.if-hit.false

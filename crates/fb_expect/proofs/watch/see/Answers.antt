use Rattle.fb_expect.proofs.lemmas.Common.{sym, subst, Steps, Watch}
use Rattle.fb_expect.specs.declared.rule.Need.TheVariants as need
use Rattle.fb_expect.specs.declared.watch.Watch.TheVariants as watch
use Rattle.fb_expect.proofs.lemmas.rules.Stepping.{see-late}
use Rattle.fb_expect.proofs.watch.see.Goals as goal

pub returns-in-Some : goal.returns-in-Some
returns-in-Some c =
    subst (λ (w : Watch). Steps (need.See c.args.within) (watch.See c.args.mark) c.args.line c.args.hit w) (sym c.broken.ensures)
    (see-late c.args.within c.args.line c.args.mark c.args.hit c.in-Some.late c.in-Some.ensures.0 c.in-Some.ensures.1)

pub returns-in-None : goal.returns-in-None
returns-in-None c = λ hs number below knows. c.mark_after.ensures c.args.within hs number below c.in-None.ensures knows

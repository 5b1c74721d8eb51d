use Rattle.fb_expect.proofs.lemmas.Common.{sym, subst, Steps, Need}
use Rattle.fb_expect.proofs.lemmas.rules.Stepping.{before-broken, count-broken, never-broken, not-broken, see-broken}
use Rattle.fb_expect.proofs.watch.step.Goals as goal

pub returns-in_default : goal.returns-in_default
returns-in_default c =
    let a = c.args in
    subst (λ (n : Need). Steps n a.watch a.line a.hit a.watch) (sym c.in-See.is) (see-broken c.in-See.within a.line a.hit a.watch c.in_default.not-See)

pub returns-in_default-watch : goal.returns-in_default-watch
returns-in_default-watch c =
    let a = c.args in
    subst (λ (n : Need). Steps n a.watch a.line a.hit a.watch) (sym c.in-Not.is) (not-broken c.in-Not.within a.line a.hit a.watch c.in_default-watch.not-Not)

pub returns-in_default-watch-2 : goal.returns-in_default-watch-2
returns-in_default-watch-2 c =
    let a = c.args in
    subst (λ (n : Need). Steps n a.watch a.line a.hit a.watch) (sym c.in-Before.is)
    (before-broken c.in-Before.within a.line a.hit a.watch c.in_default-watch-2.not-Before)

pub returns-in_default-watch-3 : goal.returns-in_default-watch-3
returns-in_default-watch-3 c =
    let a = c.args in
    subst (λ (n : Need). Steps n a.watch a.line a.hit a.watch) (sym c.in-Never.is)
    (never-broken c.in-Never.from_start a.line a.hit a.watch c.in_default-watch-3.not-Never)

pub returns-in_default-watch-4 : goal.returns-in_default-watch-4
returns-in_default-watch-4 c =
    let a = c.args in
    let n = c.in-Count in
    subst (λ (n : Need). Steps n a.watch a.line a.hit a.watch) (sym c.in-Count.is)
    (count-broken n.least n.most n.every a.line a.hit a.watch c.in_default-watch-4.not-Count)

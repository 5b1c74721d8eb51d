use Rattle.fb_expect.proofs.lemmas.Common.{sym, subst, Need}
use Rattle.fb_expect.specs.Paired.{PairsApply}
use Rattle.fb_expect.proofs.pairs.Pairs.is_applied.Goals as goal

pub returns-in-See : goal.returns-in-See
returns-in-See c = λ p.
    let a = c.args in
    subst (λ (n : Need). PairsApply n p a.self.now a.end a.often c.settles.result) (sym c.in-See.is) (c.settles.ensures p)

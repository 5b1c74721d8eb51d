use Rattle.fb_expect.proofs.lemmas.Common.{◌≡◌, ℕ, inl, inr, sym, subst, Concludes, End, Need, Holds, Watch}
use Rattle.fb_expect.specs.declared.rule.Need.TheVariants as need
use Rattle.fb_expect.specs.declared.verdict.Verdict.{Verdict}
use Rattle.fb_expect.specs.declared.watch.Watch.TheVariants as watch
use Rattle.fb_expect.proofs.lemmas.rules.Verdicts.{before-left, broken-ends, count-left, never-left, not-left, see-left}
use Rattle.fb_expect.proofs.verdict.verdict_of.Goals as goal

-- what comes of a rule and a state comes of those that are the same
same : (n m : Need) (w v : Watch) (line : ℕ) (end : End) (r : Verdict) → n ≡ m → w ≡ v → Concludes m v line end r → Concludes n w line end r
same n m w v line end r rule state here =
    subst (λ (x : Need). Concludes x w line end r) (sym rule) (subst (λ (y : Watch). Concludes m y line end r) (sym state) here)

pub returns-in-Broken : goal.returns-in-Broken
returns-in-Broken c = let a = c.args in broken-ends a.need a.line a.watch a.end c.in-Broken.breach c.in-Broken.is

pub returns-in-See-watch : goal.returns-in-See-watch
returns-in-See-watch c =
    let a = c.args in
    same a.need (need.See c.in-See.within) a.watch (watch.See c.in-See-watch.mark) a.line a.end c.conclude_mark.result c.in-See.is c.in-See-watch.is
    (λ hs number below knows. c.conclude_mark.ensures hs below knows)

pub returns-in_default-watch : goal.returns-in_default-watch
returns-in_default-watch c =
    let a = c.args in
    subst (λ (n : Need). Concludes n a.watch a.line a.end Holds) (sym c.in-See.is)
    (see-left c.in-See.within a.line a.watch a.end c.in_default-watch.not-See c.in_default.not-Broken)

pub returns-in-Not-watch : goal.returns-in-Not-watch
returns-in-Not-watch c =
    let a = c.args in
    same a.need (need.Not c.in-Not.within) a.watch (watch.Not c.in-Not-watch.last) a.line a.end c.conclude_last.result c.in-Not.is c.in-Not-watch.is
    (λ hs number below knows. c.conclude_last.ensures hs knows.0 knows.1)

pub returns-in_default-watch-2 : goal.returns-in_default-watch-2
returns-in_default-watch-2 c =
    let a = c.args in
    subst (λ (n : Need). Concludes n a.watch a.line a.end Holds) (sym c.in-Not.is)
    (not-left c.in-Not.within a.line a.watch a.end c.in_default-watch-2.not-Not c.in_default.not-Broken)

pub returns-in-Before : goal.returns-in-Before
returns-in-Before c =
    let a = c.args in
    elim c.in-Before.is [
      | inl before ↦ subst (λ (n : Need). Concludes n a.watch a.line a.end Holds) (sym before.1) (before-left before.0 a.line a.watch a.end c.in_default.not-Broken)
      | inr never ↦ subst (λ (n : Need). Concludes n a.watch a.line a.end Holds) (sym never.1) (never-left never.0 a.line a.watch a.end c.in_default.not-Broken)
    ]

pub returns-in-Count-watch : goal.returns-in-Count-watch
returns-in-Count-watch c =
    let a = c.args in
    let n = c.in-Count in
    let w = c.in-Count-watch in
    same a.need (need.Count n.least n.most n.every) a.watch (watch.Count w.window w.count) a.line a.end c.conclude_window.result n.is w.is c.conclude_window.ensures

pub returns-in_default-watch-3 : goal.returns-in_default-watch-3
returns-in_default-watch-3 c =
    let a = c.args in
    let n = c.in-Count in
    subst (λ (n : Need). Concludes n a.watch a.line a.end Holds) (sym n.is)
    (count-left n.least n.most n.every a.line a.watch a.end c.in_default-watch-3.not-Count c.in_default.not-Broken)

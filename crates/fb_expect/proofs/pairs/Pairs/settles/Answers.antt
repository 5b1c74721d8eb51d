use Rattle.fb_expect.proofs.lemmas.Common.{◌≡◌, ℕ, List, length, subst, sym, ◌∙◌, arith, Waiting}
use Rattle.std.proofs.Common.{MatchOption, nat_lt}
use Rattle.fb_expect.specs.Paired.{IsInTime, IsOverdue, PairsSettle}
use Rattle.fb_expect.proofs.lemmas.pairs.PairsSettled.{count-by, over-by}
use Rattle.fb_expect.proofs.pairs.Pairs.settles.Goals as goal

pub returns-then-is_some-2 : goal.returns-then-is_some-2
returns-then-is_some-2 c = λ p.
    let a = c.args in
    let o = c.overdue.result in
    over-by a.within p a.self.now a.end a.often o (sym c.is_some.ensures ∙ c.if-is_some.false) (sym c.is_some-2.ensures ∙ c.if-is_some-2.true)
    (subst (λ (t : ℕ). MatchOption o (IsInTime a.within t a.self.now.waiting.items) (IsOverdue a.within t a.self.now.waiting.items)) c.tick.ensures
    (subst (λ (ws : List Waiting). MatchOption o (IsInTime a.within c.tick.result ws) (IsOverdue a.within c.tick.result ws)) c.as_slice.ensures.value c.overdue.ensures))

pub returns : goal.returns
returns c = λ p.
    let a = c.args in
    let o = c.overdue.result in
    let long : length a.self.now.waiting.items ≡ c.len.result = omega (arith, c.len.ensures, a.self.now.waiting.ok.0) in
    subst (λ (n : ℕ). PairsSettle a.within p a.self.now a.end a.often (nat_lt n a.often)) long
    (count-by a.within p a.self.now a.end a.often o (sym c.is_some.ensures ∙ c.if-is_some.false) (sym c.is_some-2.ensures ∙ c.if-is_some-2.false)
    (subst (λ (t : ℕ). MatchOption o (IsInTime a.within t a.self.now.waiting.items) (IsOverdue a.within t a.self.now.waiting.items)) c.tick.ensures
    (subst (λ (ws : List Waiting). MatchOption o (IsInTime a.within c.tick.result ws) (IsOverdue a.within c.tick.result ws)) c.as_slice.ensures.value c.overdue.ensures)))

use Rattle.fb_expect.proofs.lemmas.Common.{◌≡◌, false, sym, subst, inl, inr, ◌⊎◌, both_ways, IsPast, Steps, Watch}
use Rattle.fb_expect.specs.declared.rule.Need.TheVariants as need
use Rattle.fb_expect.specs.declared.watch.Watch.TheVariants as watch
use Rattle.fb_expect.proofs.lemmas.rules.Stepping.{before-breaks, before-other, before-second}
use Rattle.fb_expect.proofs.watch.before.Goals as goal
use Rattle.fb_expect.proofs.watch.before.Goals.{else-hit-via-then-hit+else-is_long_past, else-hit-via-else-hit}

pub returns-then-is_long_past : goal.returns-then-is_long_past
returns-then-is_long_past c =
    subst (λ (w : Watch). Steps (need.Before c.args.within) (watch.Before c.args.last) c.args.line c.args.hit w) (sym c.broken.ensures)
    (before-breaks c.args.within c.args.line c.args.last c.args.hit c.if-hit.true (c.is_long_past.ensures.0 c.if-is_long_past.true))

fine : (c : goal.Then-hit-2) → (c.args.hit.first ≡ false) ⊎ (IsPast c.args.last c.args.within c.args.hit.tick → ⊥)
fine c =
    elim c.else-hit.branch [
      | else-hit-via-then-hit+else-is_long_past w ↦ inr (λ past. both_ways w.is_long_past.result w.if-is_long_past.false (w.is_long_past.ensures.1 past))
      | else-hit-via-else-hit w ↦ inl w.if-hit.false
    ]

fine' : (c : goal.Else-hit-2) → (c.args.hit.first ≡ false) ⊎ (IsPast c.args.last c.args.within c.args.hit.tick → ⊥)
fine' c =
    elim c.else-hit.branch [
      | else-hit-via-then-hit+else-is_long_past w ↦ inr (λ past. both_ways w.is_long_past.result w.if-is_long_past.false (w.is_long_past.ensures.1 past))
      | else-hit-via-else-hit w ↦ inl w.if-hit.false
    ]

pub returns-then-hit-2 : goal.returns-then-hit-2
returns-then-hit-2 c = before-second c.args.within c.args.line c.args.last c.args.hit (fine c) c.if-hit-2.true

pub returns-else-hit-2 : goal.returns-else-hit-2
returns-else-hit-2 c = before-other c.args.within c.args.line c.args.last c.args.hit (fine' c) c.if-hit-2.false

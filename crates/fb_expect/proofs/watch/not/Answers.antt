use Rattle.fb_expect.proofs.lemmas.Common.{◌≡◌, false, sym, subst, inl, inr, ◌⊎◌, both_ways, IsPast, Steps, Watch}
use Rattle.fb_expect.specs.declared.rule.Need.TheVariants as need
use Rattle.fb_expect.specs.declared.watch.Watch.TheVariants as watch
use Rattle.fb_expect.proofs.lemmas.rules.Stepping.{not-breaks, not-first, not-other}
use Rattle.fb_expect.proofs.watch.not.Goals as goal
use Rattle.fb_expect.proofs.watch.not.Goals.{else-hit-via-then-hit+else-not-is_long_past, else-hit-via-else-hit}

pub returns-then-not-is_long_past : goal.returns-then-not-is_long_past
returns-then-not-is_long_past c =
    subst (λ (w : Watch). Steps (need.Not c.args.within) (watch.Not c.args.last) c.args.line c.args.hit w) (sym c.broken.ensures)
    (not-breaks c.args.within c.args.line c.args.last c.args.hit c.if-hit.true (λ past. both_ways c.is_long_past.result c.if-not-is_long_past.true (c.is_long_past.ensures.1 past)))

fine : (c : goal.Then-hit-2) → (c.args.hit.second ≡ false) ⊎ IsPast c.args.last c.args.within c.args.hit.tick
fine c =
    elim c.else-hit.branch [
      | else-hit-via-then-hit+else-not-is_long_past w ↦ inr (w.is_long_past.ensures.0 w.if-not-is_long_past.false)
      | else-hit-via-else-hit w ↦ inl w.if-hit.false
    ]

fine' : (c : goal.Else-hit-2) → (c.args.hit.second ≡ false) ⊎ IsPast c.args.last c.args.within c.args.hit.tick
fine' c =
    elim c.else-hit.branch [
      | else-hit-via-then-hit+else-not-is_long_past w ↦ inr (w.is_long_past.ensures.0 w.if-not-is_long_past.false)
      | else-hit-via-else-hit w ↦ inl w.if-hit.false
    ]

pub returns-then-hit-2 : goal.returns-then-hit-2
returns-then-hit-2 c = not-first c.args.within c.args.line c.args.last c.args.hit (fine c) c.if-hit-2.true

pub returns-else-hit-2 : goal.returns-else-hit-2
returns-else-hit-2 c = not-other c.args.within c.args.line c.args.last c.args.hit (fine' c) c.if-hit-2.false

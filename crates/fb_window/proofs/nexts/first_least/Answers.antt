use Rattle.fb_types.proofs.Common.{◌≡◌, ℕ, ◌+◌, Some, get_or, slice_get, sym, subst, arith, slice_get-get_or, slice_get_within}
use Rattle.fb_window.proofs.lemmas.bounds.NextTicks.{IsLeastTick, least_tick_less, least_tick_more, least_tick_none}
use Rattle.fb_window.proofs.nexts.first_least.Goals as goal
use Rattle.fb_window.proofs.nexts.first_least.Goals.{then-tick-least, else-tick-least}

pub loop-index-init : goal.loop-index-init
loop-index-init c = least_tick_none c.args.horizon c.args.ticks.now

pub loop-index-preserved : goal.loop-index-preserved
loop-index-preserved c =
    let ticks = c.args.ticks.now in
    let n = c.loop-index.index in
    let tick = get_or ticks n 0 in
    let at : slice_get ticks n ≡ Some tick = slice_get-get_or ticks n 0 c.loop-index-test.true in
    elim c.if-tick-least.branch [
      | then-tick-least w ↦
          subst (λ (f : ℕ). IsLeastTick c.args.horizon ticks (n + 1) f c.if-tick-least.least) (sym w.first-is)
          (subst (IsLeastTick c.args.horizon ticks (n + 1) n) (sym w.least-is) (least_tick_less c.args.horizon ticks n c.loop-index.first c.loop-index.least tick c.loop-index.invariant at w.if-tick-least.true))
      | else-tick-least w ↦
          subst (λ (f : ℕ). IsLeastTick c.args.horizon ticks (n + 1) f c.if-tick-least.least) (sym w.first-is)
          (subst (IsLeastTick c.args.horizon ticks (n + 1) c.loop-index.first) (sym w.least-is)
          (least_tick_more c.args.horizon ticks n c.loop-index.first c.loop-index.least tick c.loop-index.invariant at w.if-tick-least.false))
    ]

pub returns-clause-low : goal.returns-clause-low
returns-clause-low c = λ r tick e.
    let h = slice_get_within c.args.ticks.now r tick e in
    c.loop-index.invariant.low r tick (omega (arith, c.loop-index-test.false)) e

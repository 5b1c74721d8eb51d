use Rattle.fb_types.proofs.Common.{◌≡◌, ◌≢◌, ◌∙◌, ◌==◌, ℕ, Bool, true, false, cond, Option, Some, sym, ap, arith, nat_tests, begun}
use Rattle.fb_types.specs.Takes.{is_tick}
use Rattle.fb_resource.specs.Counts.{meter_of}
use Rattle.fb_resource.specs.declared.tick_counts.TickCounts.{TickCounts}
use Rattle.fb_stop.proofs.spent.left_at.Goals as goal

chosen : (limit tick : ℕ) (m : TickCounts) (b : Bool) → is_tick m.tick tick ≡ b → cond b m.meter.left limit ≡ (begun limit tick (meter_of m)).left
chosen limit tick m true is = ap (λ (b : Bool). (cond b (meter_of m) (record { tick = Some tick; left = limit; locals = 0 })).left) (sym is)
chosen limit tick m false is = ap (λ (b : Bool). (cond b (meter_of m) (record { tick = Some tick; left = limit; locals = 0 })).left) (sym is)

same_tick : (at tick : ℕ) → at ≡ tick → (at == tick) ≡ true
same_tick at tick e = grind (arith, nat_tests)

other_tick : (at tick : ℕ) → at ≢ tick → (at == tick) ≡ false
other_tick at tick e = grind (arith, nat_tests)

pub returns-then-at-tick : goal.returns-then-at-tick
returns-then-at-tick c =
    chosen c.args.limit c.args.tick c.args.counts.now true (ap (λ (o : Option ℕ). is_tick o c.args.tick) c.in-Some.is ∙ same_tick c.in-Some.at c.args.tick c.if-at-tick.true)

pub returns-else-at-tick : goal.returns-else-at-tick
returns-else-at-tick c =
    chosen c.args.limit c.args.tick c.args.counts.now false (ap (λ (o : Option ℕ). is_tick o c.args.tick) c.in-Some.is ∙ other_tick c.in-Some.at c.args.tick c.if-at-tick.false)

pub returns-in-None : goal.returns-in-None
returns-in-None c = chosen c.args.limit c.args.tick c.args.counts.now false (ap (λ (o : Option ℕ). is_tick o c.args.tick) c.in-None.is)

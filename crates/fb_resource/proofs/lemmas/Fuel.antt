-- Each step that is used leaves fewer steps below the horizon.
use Rattle.fb_types.proofs.Common.{◌≡◌, ◌≢◌, ⊎_elim, ℕ, suc, ◌+◌, ◌-◌, ◌*◌, ◌<◌, ◌≤◌, Bool, true, false, cond, sym, subst, Option, Some, None, eqb, arith, unwrap_or, begun}
use Rattle.std.proofs.Math.Nat.{mul-le-mul_right, suc-mul}
use Rattle.std.proofs.lemmas.Bool.Decides.{eqb_tells}
use Rattle.fb_types.specs.States as States
use Rattle.fb_resource.specs.Counts.{fuel, meter_of}
use Rattle.fb_resource.specs.declared.tick_counts.TickCounts.{TickCounts}

less_ticks : (a b l x y : ℕ) → a < b → x < l → a * l + x < b * l + y
less_ticks a b l x y lt small =
    let least : suc a * l ≤ b * l = mul-le-mul_right l lt in
    omega (arith, least, suc-mul a l, small)

pub fuel_falls : (horizon limit t : ℕ) (old new : TickCounts) → new.tick ≡ Some t → suc new.meter.left ≤ (begun limit t (meter_of old)).left → unwrap_or old.tick 0 ≤ t → t < horizon
    → fuel horizon limit new < fuel horizon limit old
fuel_falls horizon limit t old new tick left later below =
    subst (λ z. elim z [ None ↦ (horizon + 1) * (limit + 1) | Some u ↦ (horizon - u) * (limit + 1) + new.meter.left ] < fuel horizon limit old) (sym tick) (go old.tick old.meter.left old.locals later left)
  where
    go : (o : Option ℕ) (l n : ℕ) → unwrap_or o 0 ≤ t → suc new.meter.left ≤ (begun limit t (record { tick = o; left = l; locals = n })).left
        → (horizon - t) * (limit + 1) + new.meter.left < elim o [ None ↦ (horizon + 1) * (limit + 1) | Some u ↦ (horizon - u) * (limit + 1) + l ]
    go None l n le h =
        let less = less_ticks (horizon - t) (horizon + 1) (limit + 1) new.meter.left 0 (omega arith) (omega (arith, h)) in
        omega (arith, less)
    go (Some u) l n le h = ⊎_elim same other (eqb_tells u t)
      where
        steps : (b : Bool) → eqb u t ≡ b → suc new.meter.left ≤ (let r : States.Meter = cond b (record { tick = Some u; left = l; locals = n }) (record { tick = Some t; left = limit; locals = 0 }) in r.left)
        steps b e = subst (λ z. suc new.meter.left ≤ (let r : States.Meter = cond z (record { tick = Some u; left = l; locals = n }) (record { tick = Some t; left = limit; locals = 0 }) in r.left)) e h

        same : ((eqb u t ≡ true) × (u ≡ t)) → (horizon - t) * (limit + 1) + new.meter.left < (horizon - u) * (limit + 1) + l
        same s =
            let one : suc new.meter.left ≤ l = steps true s.0 in
            rw s.1 (omega (arith, one))

        other : ((eqb u t ≡ false) × (u ≢ t)) → (horizon - t) * (limit + 1) + new.meter.left < (horizon - u) * (limit + 1) + l
        other s =
            let one : suc new.meter.left ≤ limit = steps false s.0 in
            less_ticks (horizon - t) (horizon - u) (limit + 1) new.meter.left l (omega (arith, le, below, s.1)) (omega (arith, one))

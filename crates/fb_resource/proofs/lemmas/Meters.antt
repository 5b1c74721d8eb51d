-- The counts of a resource, from a tick on.
use Rattle.fb_resource.proofs.lemmas.Common.{◌≡◌, ◌≢◌, ℕ, suc, ◌<◌, ◌≤◌, Bool, true, false, eqb, cond, refl, sym, ap, subst, ◌∙◌, Option, Some, None, arith, unwrap_or, Inputs, State, begun, Forest, IsMetered, meter_of, IsHere, TickCounts}
use Rattle.fb_types.proofs.Common.{◌-◌, not, ne_eqb, not-true, Meter}
use Rattle.std.specs.Option.{option_eq}
use Rattle.fb_types.specs.Takes.{is_tick}
use Rattle.fb_resource.specs.Counts.{BeginAlike, IsUnused, before_step}

-- ---- Two meters

pub alike_same : (from : ℕ) (a b : Meter) → a ≡ b → BeginAlike from a b
alike_same from a b same limit t late = ap (λ (m : Meter). cond (is_tick m.tick t) m (record { tick = Some t; left = limit; locals = 0 })) same

pub alike_later : (from to : ℕ) (a b : Meter) → from ≤ to → BeginAlike from a b → BeginAlike to a b
alike_later from to a b le alike limit t late = alike limit t (omega (arith, le, late))

pub other_tick : (o : Option ℕ) (t : ℕ) → true ≡ not (option_eq eqb o (Some t)) → is_tick o t ≡ false
other_tick None t e = refl
other_tick (Some s) t e = not-true (eqb s t) (sym e)

-- the first step of a tick
pub step_afresh : (limit tick : ℕ) (m : TickCounts) → is_tick m.tick tick ≡ false → limit ≢ 0
    → meter_of (before_step (record { tick = Some tick; meter = record { left = limit - 1 }; locals = 0 })) ≡ begun limit tick (meter_of m)
step_afresh limit tick m other some =
    let with_left : ℕ → Meter = λ n. record { tick = Some tick; left = n; locals = 0 } in
    let whole : suc (limit - 1) ≡ limit = omega (arith, some) in
    ap with_left whole ∙ sym (ap (λ (z : Bool). cond z (meter_of m) (with_left limit)) other)

-- where neither has counted a step, a tick begins afresh
pub alike_unused : (from : ℕ) (a b : Meter) → IsUnused from a → IsUnused from b → BeginAlike from a b
alike_unused from a b one two limit t late =
    let afresh : Meter = record { tick = Some t; left = limit; locals = 0 } in
    ap (λ (z : Bool). cond z a afresh) (one t late) ∙ sym (ap (λ (z : Bool). cond z b afresh) (two t late))

-- A meter that has counted a step would begin the tick with what it has left, and not with each limit.
pub unused_alike : (from : ℕ) (a b : Meter) → BeginAlike from a b → IsUnused from b → IsUnused from a
unused_alike from a b alike unused t late = go (is_tick a.tick t) refl
  where
    left : is_tick a.tick t ≡ true → (limit : ℕ) → a.left ≡ limit
    left same limit =
        let afresh : Meter = record { tick = Some t; left = limit; locals = 0 } in
        let whole : a ≡ afresh = sym (ap (λ (z : Bool). cond z a afresh) same) ∙ alike limit t late ∙ ap (λ (z : Bool). cond z b afresh) (unused t late) in
        ap (λ (m : Meter). m.left) whole

    go : (z : Bool) → is_tick a.tick t ≡ z → z ≡ false
    go true same =
        let none = left same 0 in
        let one = left same 1 in
        absurd (omega (arith, none, one))
    go false other = refl

-- ---- Ticks

-- a meter of a tick before another one has no step of this one
pub unused_below : (to k : ℕ) (m : Meter) → m.tick ≡ Some k → k < to → IsUnused to m
unused_below to k m is below t late = subst (λ o. is_tick o t ≡ false) (sym is) (ne_eqb k t (λ same. omega (arith, same, below, late)))

-- ---- Counts that begin

abbrev pub fresh_counts : TickCounts
fresh_counts = record { tick = None; meter = record { left = 0 }; locals = 0 }

pub metered_fresh : (limit : ℕ) (m : TickCounts) → m ≡ fresh_counts → IsMetered limit m
metered_fresh limit m is = subst (IsMetered limit) (sym is) (record { left = omega arith; locals = omega arith })

pub past_fresh : (clock : ℕ) (m : TickCounts) → m ≡ fresh_counts → unwrap_or m.tick 0 ≤ clock
past_fresh clock m is = subst (λ (z : TickCounts). unwrap_or z.tick 0 ≤ clock) (sym is) (omega arith)

pub unused_fresh : (from : ℕ) (m : TickCounts) → m ≡ fresh_counts → IsUnused from (meter_of m)
unused_fresh from m is = subst (λ (z : TickCounts). IsUnused from (meter_of z)) (sym is) (λ t late. refl)

-- ---- A resource

pub here_later : (i : Inputs) (s : State) (r from to : ℕ) (t : Forest) (x : TickCounts) → from ≤ to → IsHere i s r from t x → IsHere i s r to t x
here_later i s r from to t x le here = record { blocks = here.blocks; meter = alike_later from to (s.meters r) (meter_of x) le here.meter; typed = here.typed }

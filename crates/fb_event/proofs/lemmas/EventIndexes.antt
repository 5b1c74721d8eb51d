-- Which index the event has whose name a reaction asks for.
use Rattle.fb_types.proofs.Common.{◌≡◌, ℕ, zero, suc, nat_eq, refl, sym, arith, ne_eqb, codes, ports_of_event_block, is, event_at}
use Rattle.fb_types.specs.declared.event_kind.EventKind.TheVariants.{Rendezvous, Select, Delay, SetReset, CountUp}

pub rendezvous-first : (event : ℕ) → is (event_at (ports_of_event_block Rendezvous).event_inputs event) (codes "EI1") ≡ nat_eq event 0
rendezvous-first zero = refl
rendezvous-first (suc zero) = refl
rendezvous-first (suc (suc zero)) = refl
rendezvous-first (suc (suc (suc event))) = sym (ne_eqb _ _ (λ e. absurd (omega arith)))

pub rendezvous-second : (event : ℕ) → is (event_at (ports_of_event_block Rendezvous).event_inputs event) (codes "EI2") ≡ nat_eq event 1
rendezvous-second zero = refl
rendezvous-second (suc zero) = refl
rendezvous-second (suc (suc zero)) = refl
rendezvous-second (suc (suc (suc event))) = sym (ne_eqb _ _ (λ e. absurd (omega arith)))

pub rendezvous-reset : (event : ℕ) → is (event_at (ports_of_event_block Rendezvous).event_inputs event) (codes "R") ≡ nat_eq event 2
rendezvous-reset zero = refl
rendezvous-reset (suc zero) = refl
rendezvous-reset (suc (suc zero)) = refl
rendezvous-reset (suc (suc (suc event))) = sym (ne_eqb _ _ (λ e. absurd (omega arith)))

pub select-low : (event : ℕ) → is (event_at (ports_of_event_block Select).event_inputs event) (codes "EI0") ≡ nat_eq event 0
select-low zero = refl
select-low (suc zero) = refl
select-low (suc (suc event)) = sym (ne_eqb _ _ (λ e. absurd (omega arith)))

pub timer-start : (event : ℕ) → is (event_at (ports_of_event_block Delay).event_inputs event) (codes "START") ≡ nat_eq event 0
timer-start zero = refl
timer-start (suc zero) = refl
timer-start (suc (suc event)) = sym (ne_eqb _ _ (λ e. absurd (omega arith)))

pub latch-set : (event : ℕ) → is (event_at (ports_of_event_block SetReset).event_inputs event) (codes "S") ≡ nat_eq event 0
latch-set zero = refl
latch-set (suc zero) = refl
latch-set (suc (suc event)) = sym (ne_eqb _ _ (λ e. absurd (omega arith)))

pub count-reset : (event : ℕ) → is (event_at (ports_of_event_block CountUp).event_inputs event) (codes "R") ≡ nat_eq event 1
count-reset zero = refl
count-reset (suc zero) = refl
count-reset (suc (suc event)) = sym (ne_eqb _ _ (λ e. absurd (omega arith)))

pub ruleset indexes_of_events = (rendezvous-first, rendezvous-second, rendezvous-reset, select-low, timer-start, latch-set, count-reset)

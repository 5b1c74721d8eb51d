use Rattle.fb_types.proofs.Common.{◌<◌, ◌⊎◌, ℕ, inl, inr, arith, ltb-true, lt-ltb}
use Rattle.fb_expect.proofs.watch.lacks.Goals as goal

some_asked : (count least : ℕ) {P : Type 0} → (count < least) ⊎ (P × (0 < least)) → 0 < least
some_asked count least (inl fewer) = omega (arith, fewer)
some_asked count least (inr h) = h.1

pub returns-then-next-window-gt1 : goal.returns-then-next-window-gt1
returns-then-next-window-gt1 c =
    let least = c.args.least in
    (λ yes. (omega arith, inr (omega arith, ltb-true 0 least yes)), λ h. lt-ltb 0 least (some_asked c.args.count least h.1))

-- What was put out still belongs to the system after a step.
use Rattle.fb_net.proofs.lemmas.Common.{◌≡◌, ℕ, List, Ok, Err, Result, sym, subst, All, Inputs, system_of, Halt, TimerAsk, Remembered, IsOut, StillAreOuts, Out, Outbox, Forest}
use Rattle.fb_types.specs.declared.run.Halt.TheVariants as halt
use Rattle.fb_system.specs.Lines.{BelongsTo}
use Rattle.fb_net.specs.Outs.{AreOuts}

-- only lines were put out, and the blocks are of the same resource
pub lines-put :
    (i : Inputs) (f g : Forest) (x y : Outbox) → g.resource ≡ f.resource → y.outs.items ≡ x.outs.items
    → (All (BelongsTo (system_of i)) x.lines.items → All (BelongsTo (system_of i)) y.lines.items) → StillAreOuts i f x g y
lines-put i f g x y resource outs lines were = record {
  lines = lines were.lines;
  outs =
      subst (λ (r : ℕ). All (IsOut (system_of i) r) y.outs.items) (sym resource)
      (subst (λ (os : List Out). All (IsOut (system_of i) f.resource) os) (sym outs) were.outs);
}

-- only the blocks have changed
pub blocks-changed : (i : Inputs) (f g : Forest) (x : Outbox) → g.resource ≡ f.resource → StillAreOuts i f x g x
blocks-changed i f g x resource were = subst (λ (r : ℕ). AreOuts (system_of i) r x) (sym resource) were

-- only the blocks and what is asked of the timer have changed
pub timer-asked : (i : Inputs) (f g : Forest) (x y : Outbox) (ask : TimerAsk) → g.resource ≡ f.resource → y ≡ record x { timer = ask } → StillAreOuts i f x g y
timer-asked i f g x y ask resource is were =
    let moved = blocks-changed i f g x resource were in
    subst (λ (z : Outbox). AreOuts (system_of i) g.resource z) (sym is) (record { lines = moved.lines; outs = moved.outs })

-- however a reaction ended
pub remembered-then : (A B : Type 0) (r : Result (Unit {0}) Halt) → (A → B) → Remembered r A → Remembered r B
remembered-then A B (Ok u) then h = then h
remembered-then A B (Err (halt.Stop s)) then h = then h
remembered-then A B (Err halt.Memory) then h = tt

pub remembered-always : (A : Type 0) (r : Result (Unit {0}) Halt) → A → Remembered r A
remembered-always A (Ok u) h = h
remembered-always A (Err (halt.Stop s)) h = h
remembered-always A (Err halt.Memory) h = tt

-- What a reaction reads of the data inputs.
use Rattle.fb_types.proofs.Common.{◌≡◌, ℕ, true, false, cond, List, [], ◌∷◌, refl, arith, IsTrue, ◌^◌, ◌-◌, pos, ℤ, ap, sym, ◌∙◌, subst, ints, codes, Name, whole, ports_of_event_block, Memory, Idle, Marks, Flag, Count, Reaction, is, started, event_at}
use Rattle.fb_types.specs.declared.run.TimerAsk.TheVariants.{Clear}
use Rattle.fb_types.specs.declared.event_kind.EventKind.{EventKind}
use Rattle.fb_types.specs.declared.value.Value.{Value}
use Rattle.std.specs.Int.{int_min}
use Rattle.fb_types.specs.Values.{in_range}
use Rattle.fb_types.specs.declared.value.Ty.TheVariants.{Time}
use Rattle.fb_types.specs.EventBlocks.{Running, ticks, timed}
use Rattle.fb_types.specs.declared.event_kind.EventKind.TheVariants as kind
use Rattle.fb_types.specs.declared.value.Value.TheVariants as value
use Rattle.fb_event.specs.State.{State}
use Rattle.fb_event.specs.Block.{state, as_time, input_of}
use Rattle.fb_event.specs.Reactions.{FitInputs, FitTheirTypes, reaction_to, first_value}
use Rattle.fb_event.specs.Step.{Performs, reaction_with}
use Rattle.fb_event.specs.declared.memory.EventMemory.{EventMemory}
use Rattle.fb_event.specs.declared.step.Step.{Step}

-- a reaction reads the first data input alone
reaction_to-first : (s : State) (event tick : ℕ) (inputs : List Value) → reaction_to s event tick inputs ≡ reaction_with s event tick (first_value inputs)
reaction_to-first s event tick inputs = read s.kind s.memory event tick inputs where
  read : (k : EventKind) (m : Memory) (event tick : ℕ) (inputs : List Value)
      → reaction_to (record { kind = k; memory = m }) event tick inputs ≡ reaction_with (record { kind = k; memory = m }) event tick (first_value inputs)
  read kind.Restart m event tick inputs = refl
  read _ m event tick [] = refl
  read _ m event tick (v ∷ vs) = refl

-- ---- A time

-- what fits TIME is in its range
in_time : (z : ℤ) → IsTrue (in_range Time z) → int_min z (pos (2 ^ 63 - 1)) ≡ z
in_time z h = grind (arith, ints, h)

as_time-typed : (inputs : List Value) → FitInputs kind.Delay inputs → whole (as_time (first_value inputs)) ≡ whole (first_value inputs)
as_time-typed [] h = refl
as_time-typed (value.Bool b ∷ vs) h = refl
as_time-typed (value.Whole z ∷ vs) h = in_time z h.0

-- a reaction of a timer reads a time alone
timed-by : (m : Memory) (e : Name) (tick : ℕ) (v w : Value) → whole v ≡ whole w → timed m e tick (λ n. v) ≡ timed m e tick (λ n. w)
timed-by m e tick v w same = ap (λ (z : ℤ). timed m e tick (λ n. value.Whole z)) same

-- ---- Where the inputs fit their types

with_inputs :
    (k : EventKind) (m : Memory) (event tick : ℕ) (inputs : List Value) → FitInputs k inputs
    → reaction_with (state k m) event tick (input_of k (first_value inputs)) ≡ reaction_with (state k m) event tick (first_value inputs)
with_inputs kind.Delay m event tick inputs h =
    timed-by m (event_at (ports_of_event_block kind.Delay).event_inputs event) tick (as_time (first_value inputs)) (first_value inputs) (as_time-typed inputs h)
with_inputs kind.Cycle m event tick inputs h =
    timed-by m (event_at (ports_of_event_block kind.Cycle).event_inputs event) tick (as_time (first_value inputs)) (first_value inputs) (as_time-typed inputs h)
with_inputs _ m event tick inputs h = refl

pub performs_typed :
    (s : State) (event tick : ℕ) (inputs : List Value) (after : EventMemory) (step : Step)
    → Performs s (reaction_with s event tick (input_of s.kind (first_value inputs))) after step
    → FitInputs s.kind inputs
    → Performs s (reaction_to s event tick inputs) after step
performs_typed s event tick inputs after step h typed =
    subst (λ (r : Reaction). Performs s r after step)
    (with_inputs s.kind s.memory event tick inputs typed ∙ sym (reaction_to-first s event tick inputs)) h

-- where all data inputs of a block fit their types, what its reaction asks holds
pub all_fit : (k : EventKind) (inputs : List Value) → FitTheirTypes (ports_of_event_block k).inputs inputs → FitInputs k inputs
all_fit kind.Delay inputs fit = fit
all_fit kind.Cycle inputs fit = fit
all_fit _ inputs fit = tt

-- ---- Of any inputs

started_silent : (m : Memory) (tick time : ℕ) → (started m tick time).emits ≡ []
started_silent Idle tick time = refl
started_silent (Marks a b) tick time = refl
started_silent (Flag q) tick time = refl
started_silent (Running before) tick time = refl
started_silent (Count cv q) tick time = refl

timed_silent : (m : Memory) (e : Name) (tick : ℕ) (v : Value) → (timed m e tick (λ n. v)).emits ≡ []
timed_silent m e tick v =
    elim (is e (codes "START")) as (λ b. (cond b (started m tick (ticks (whole v))) (record { memory = Idle; emits = []; timer = Clear })).emits ≡ []) [
      | true ↦ started_silent m tick (ticks (whole v))
      | false ↦ refl
    ]

same_emits : (k : EventKind) (m : Memory) (event tick : ℕ) (v : Value)
    → (reaction_with (state k m) event tick (input_of k v)).emits ≡ (reaction_with (state k m) event tick v).emits
same_emits kind.Delay m event tick v =
    let e = event_at (ports_of_event_block kind.Delay).event_inputs event in timed_silent m e tick (as_time v) ∙ sym (timed_silent m e tick v)
same_emits kind.Cycle m event tick v =
    let e = event_at (ports_of_event_block kind.Cycle).event_inputs event in timed_silent m e tick (as_time v) ∙ sym (timed_silent m e tick v)
same_emits _ m event tick v = refl

pub silent_inputs :
    (s : State) (event tick : ℕ) (inputs : List Value) → (reaction_to s event tick inputs).emits ≡ []
    → (reaction_with s event tick (input_of s.kind (first_value inputs))).emits ≡ []
silent_inputs s event tick inputs h =
    same_emits s.kind s.memory event tick (first_value inputs) ∙ sym (ap (λ (r : Reaction). r.emits) (reaction_to-first s event tick inputs)) ∙ h

pub ruleset inputs = (performs_typed, silent_inputs)

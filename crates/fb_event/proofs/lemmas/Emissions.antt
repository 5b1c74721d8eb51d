-- What emissions by number represent.
use Rattle.fb_types.proofs.Common.{Bool, true, false, not, Option, IsTrue, ◌≡◌, ℕ, zero, suc, List, [], ◌∷◌, ◌++◌, All, map, length, refl, arith, sym, ap, ◌∙◌, length-map, map-append, All-head, All-map, All-push, All-tail, All-weaker, Name, Values, is_some, ports_of_event_block, variable_names, outputs_with, bound, type_at, Memory, Reaction, event_at, emission_of, pair_up, emissions}
use Rattle.fb_types.specs.declared.library.Variable.{Variable}
use Rattle.fb_types.specs.declared.value.Ty.{Ty}
use Rattle.fb_types.specs.declared.event_kind.EventKind.{EventKind}
use Rattle.fb_types.specs.declared.event_kind.EventKind.TheVariants.{SetReset, DataLatch, CountUp}
use Rattle.fb_types.specs.EventBlocks.{output_of}
use Rattle.fb_types.specs.declared.run.Emission as run
use Rattle.fb_event.specs.Block.{state_of, values_of, values_in, values_if_any, IsInRange}
use Rattle.fb_event.specs.Emissions.{emission_at, emitted_by}
use Rattle.fb_event.specs.Reactions.{EmitsAfter, IsEventOutput, IsWellFormed, emissions_of, meanings}
use Rattle.fb_event.specs.State.{State}
use Rattle.fb_event.specs.Step.{Performs}
use Rattle.fb_event.specs.declared.step.Step.{Step}
use Rattle.fb_event.specs.Seen.{seen_memory}
use Rattle.fb_event.specs.declared.memory.EventMemory.{EventMemory}

-- every event output is WITH all data outputs
outputs_with-all : (k : EventKind) (index : ℕ) → IsEventOutput k index
    → outputs_with (ports_of_event_block k) (event_at (ports_of_event_block k).event_outputs index) ≡ variable_names (ports_of_event_block k).outputs
outputs_with-all SetReset zero h = refl
outputs_with-all SetReset (suc index) h = absurd (omega arith)
outputs_with-all DataLatch zero h = refl
outputs_with-all DataLatch (suc index) h = absurd (omega arith)
outputs_with-all CountUp zero h = refl
outputs_with-all CountUp (suc zero) h = refl
outputs_with-all CountUp (suc (suc index)) h = absurd (omega arith)
outputs_with-all _ index h = refl

-- an event output with the values of all data outputs is a well-formed emission
emission_at-IsWellFormed : (s : State) (index : ℕ) → IsEventOutput s.kind index
    → IsWellFormed s.kind (emission_at s index)
emission_at-IsWellFormed s index h =
    (h, length-map _ _ ∙ sym (ap length (outputs_with-all s.kind index h)))

-- values in the order of the names are the values of the names
pair_up-map : (vars : Values) (ns : List Name) → pair_up ns (map vars ns) ≡ bound ns vars
pair_up-map vars [] = refl
pair_up-map vars (n ∷ ns) = rw (pair_up-map vars ns)

-- what an emission by number represents
emission_of-emission_at : (s : State) (index : ℕ) → IsEventOutput s.kind index
    → emission_of (ports_of_event_block s.kind) (emission_at s index)
    ≡ record {
      event = event_at (ports_of_event_block s.kind).event_outputs index;
      values = bound (outputs_with (ports_of_event_block s.kind) (event_at (ports_of_event_block s.kind).event_outputs index)) (output_of s.memory);
    }
emission_of-emission_at s index h = rw (outputs_with-all s.kind index h) (rw (pair_up-map (output_of s.memory) _))

-- what emissions by number represent, by the state of the block
meanings-emission_at : (s : State) (indexes : List ℕ) → All (IsEventOutput s.kind) indexes
    → meanings s.kind (map (emission_at s) indexes)
    ≡ emissions (ports_of_event_block s.kind) (output_of s.memory)
    (map (event_at (ports_of_event_block s.kind).event_outputs) indexes)
meanings-emission_at s [] h = refl
meanings-emission_at s (index ∷ indexes) h =
    let here : IsEventOutput s.kind index = All-head (IsEventOutput s.kind) index indexes h in
    let rest : All (IsEventOutput s.kind) indexes = All-tail (IsEventOutput s.kind) index indexes h in
    rw (emission_of-emission_at s index here) (rw (meanings-emission_at s indexes rest))

-- a well-formed list stays so where an event output is emitted
pub push-IsWellFormed : (s : State) (emits : List run.Emission) (index : ℕ) → All (IsWellFormed s.kind) emits
    → IsEventOutput s.kind index → All (IsWellFormed s.kind) (emits ++ emission_at s index ∷ [])
push-IsWellFormed s emits index all here = All-push (IsWellFormed s.kind) _ _ all (emission_at-IsWellFormed s index here)

-- event outputs with the values of all data outputs are well-formed emissions
all-IsWellFormed : (s : State) (indexes : List ℕ) → All (IsEventOutput s.kind) indexes → All (IsWellFormed s.kind) (map (emission_at s) indexes)
all-IsWellFormed s indexes within =
    All-map (IsWellFormed s.kind) (emission_at s) indexes
    (All-weaker (IsEventOutput s.kind) (λ index. IsWellFormed s.kind (emission_at s index)) (emission_at-IsWellFormed s) indexes within)

-- what a step emits is what its reaction emits
emitted-Performs : (s : State) (r : Reaction) (m : EventMemory) (step : Step) → Performs s r m step
    → meanings s.kind (emitted_by (state_of s.kind m) step) ≡ emissions_of s.kind r
emitted-Performs s r m step h =
    meanings-emission_at (state_of s.kind m) step.emits.now h.within
    ∙ ap (λ (memory : Memory). emissions (ports_of_event_block s.kind) (output_of memory) (map (event_at (ports_of_event_block s.kind).event_outputs) step.emits.now)) h.memory
    ∙ ap (emissions (ports_of_event_block s.kind) (output_of r.memory)) h.emits

pub emissions-Performs : (s : State) (r : Reaction) (m : EventMemory) (step : Step) (old new : List run.Emission) → Performs s r m step
    → new ≡ old ++ map (emission_at (state_of s.kind m)) step.emits.now → meanings s.kind new ≡ meanings s.kind old ++ emissions_of s.kind r
emissions-Performs s r m step old new h e =
    rw e (map-append _ old _ ∙ ap (λ es. meanings s.kind old ++ es) (emitted-Performs s r m step h))

-- no list but the empty one has no images
map-nil : {A B : Type 0} (f : A → B) (xs : List A) → map f xs ≡ [] → xs ≡ []
map-nil f [] e = refl
map-nil f (x ∷ xs) e = cc

-- a step emits nothing where its reaction does
pub silent-Performs : (s : State) (r : Reaction) (m : EventMemory) (step : Step) → Performs s r m step → r.emits ≡ [] → step.emits.now ≡ []
silent-Performs s r m step h e = map-nil _ step.emits.now (h.emits ∙ e)

-- what a step emits is put after what was emitted before
pub appended-Performs : (s : State) (r : Reaction) (m : EventMemory) (step : Step) (old new : List run.Emission) → Performs s r m step
    → new ≡ old ++ map (emission_at (state_of s.kind m)) step.emits.now → EmitsAfter s.kind r old new
appended-Performs s r m step old new h e = record {
  news = emitted_by (state_of s.kind m) step;
  appended = e;
  meant = emitted-Performs s r m step h;
  well_formed = all-IsWellFormed (state_of s.kind m) step.emits.now h.within;
}

pub ruleset step_emissions = (emissions-Performs, silent-Performs, appended-Performs)

-- ---- The values of the data outputs

-- a block without data outputs
bare-of : (m : Memory) (vs : List Variable) (head : Option Ty) (result : Bool) → head ≡ type_at vs 0 → is_some head ≡ not result → IsTrue result
    → map (output_of m) (variable_names vs) ≡ []
bare-of m [] head result is none t = refl
bare-of m (x ∷ xs) head true is none t = absurd (cc)
bare-of m (x ∷ xs) head false is none t = absurd (cc)

pub bare : (k : EventKind) (m : EventMemory) (head : Option Ty) (result : Bool) → head ≡ type_at (ports_of_event_block k).outputs 0
    → is_some head ≡ not result → IsTrue result → values_of (state_of k m) ≡ []
bare k m head result is none t = bare-of (seen_memory m) (ports_of_event_block k).outputs head result is none t

-- a block with data outputs
shown-of : (m : EventMemory) (vs : List Variable) (head : Option Ty) (result : Bool) → head ≡ type_at vs 0 → is_some head ≡ not result → result ≡ false
    → values_if_any vs m ≡ values_in m
shown-of m [] head result is none f = absurd (cc)
shown-of m (x ∷ xs) head result is none f = refl

pub shown : (k : EventKind) (m : EventMemory) (head : Option Ty) (result : Bool) → IsInRange k m → head ≡ type_at (ports_of_event_block k).outputs 0
    → is_some head ≡ not result → result ≡ false → values_of (state_of k m) ≡ values_in m
shown k m head result h is none f = h.values ∙ shown-of m (ports_of_event_block k).outputs head result is none f

-- what shows no values has none
nothing-of : (m : EventMemory) (vs : List Variable) → values_in m ≡ [] → values_if_any vs m ≡ []
nothing-of m [] e = refl
nothing-of m (x ∷ xs) e = e

pub nothing : (k : EventKind) (m : EventMemory) → IsInRange k m → values_in m ≡ [] → values_of (state_of k m) ≡ []
nothing k m h e = h.values ∙ nothing-of m (ports_of_event_block k).outputs e

pub ruleset shown_values = (bare, shown, nothing)

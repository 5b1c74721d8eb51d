-- Reactions in the terms of the program's calls, where events are indexes in the lists of the ports (this project's profile, in the manner of IEC 61499-1, Annex A).
use Rattle.std.specs.Prelude.{ℕ, List, [], ◌∷◌, ◌++◌, map, length, All, ◌≡◌, ◌<◌, IsTrue}
use Rattle.fb_types.specs.Values.{Values, fits}
use Rattle.fb_types.specs.Blocks.{ports_of_event_block, variable_names, inputs_with, outputs_with, Emission}
use Rattle.fb_types.specs.EventBlocks.{Memory, Reaction, reaction, expiry, output_of}
use Rattle.fb_types.specs.Flat.{zero_value}
use Rattle.fb_types.specs.Numbers.{event_at, by_index, emission_of}
use Rattle.fb_types.specs.Reactions.{emissions}
use Rattle.fb_types.specs.Names.{Name}
use Rattle.fb_types.specs.declared.event_kind.EventKind.{EventKind}
use Rattle.fb_types.specs.declared.event_kind.EventKind.TheVariants as kind
use Rattle.fb_types.specs.declared.library.Variable.{Variable}
use Rattle.fb_types.specs.declared.run.Emission as run
use Rattle.fb_types.specs.declared.run.TimerAsk.TheVariants.{Keep}
use Rattle.fb_types.specs.declared.value.Value.{Value}
use Rattle.fb_event.specs.State.{State}

-- The values fit the types of the variables at their indexes.
abbrev pub FitTheirTypes : List Variable → List Value → Type 0
FitTheirTypes (x ∷ xs) (v ∷ vs) = IsTrue (fits x.ty v) × FitTheirTypes xs vs
FitTheirTypes _ _ = Unit {0}

-- The data input of a block that measures time, E_DELAY or E_CYCLE, has a value of its type. Of the inputs of all others nothing is asked.
abbrev pub FitInputs : EventKind → List Value → Type 0
FitInputs kind.Delay inputs = FitTheirTypes (ports_of_event_block kind.Delay).inputs inputs
FitInputs kind.Cycle inputs = FitTheirTypes (ports_of_event_block kind.Cycle).inputs inputs
FitInputs _ inputs = Unit {0}

-- the value of the first variable
abbrev pub first_value : List Value → Value
first_value [] = zero_value
first_value (v ∷ vs) = v

-- the reaction to the event input at an index, with the values of all data inputs in the order of the declaration
abbrev pub reaction_to : State → (event tick : ℕ) → List Value → Reaction
reaction_to s event tick inputs =
    let p = ports_of_event_block s.kind in
    reaction s.kind s.memory (event_at p.event_inputs event) tick (by_index (variable_names p.inputs) inputs)

-- the reaction to the timer
abbrev pub expiry_of : State → (tick : ℕ) → Reaction
expiry_of s tick = expiry s.kind s.memory tick

-- what a reaction of a block of this kind emits
abbrev pub emissions_of : EventKind → Reaction → List Emission
emissions_of k r = emissions (ports_of_event_block k) (output_of r.memory) r.emits

-- what emissions by number represent
abbrev pub meanings : EventKind → List run.Emission → List Emission
meanings k es = map (emission_of (ports_of_event_block k)) es

-- The index is one of an event output.
abbrev pub IsEventOutput : EventKind → ℕ → Type 0
IsEventOutput k index = index < length (ports_of_event_block k).event_outputs

-- The emission is one of an event output, with as many values as there are variables WITH it.
abbrev pub IsWellFormed : EventKind → run.Emission → Type 0
IsWellFormed k e =
    let p = ports_of_event_block k in
    IsEventOutput k e.event × (length e.values ≡ length (outputs_with p (event_at p.event_outputs e.event)))

-- The list is that one, and others after it.
abbrev pub BeginsWith : (old new : List run.Emission) → Type 0
BeginsWith old new = (news : List run.Emission) × (new ≡ old ++ news)

-- After a list of emissions are those of a reaction, and nothing else.
pub record EmitsAfter (k : EventKind) (r : Reaction) (old new : List run.Emission) : Type 0 where
  pub news : List run.Emission
  pub appended : new ≡ old ++ news
  pub meant : meanings k news ≡ emissions_of k r
  pub well_formed : All (IsWellFormed k) news

-- A block of this kind answers each event by one event output without values, and does nothing else. It has no data inputs.
pub record PassesTo (k : EventKind) (out : ℕ) : Type 0 where
  pub answers : (m : Memory) (e : Name) (tick : ℕ) (vars : Values)
      → reaction k m e tick vars ≡ record { memory = m; emits = event_at (ports_of_event_block k).event_outputs out ∷ []; timer = Keep }
  pub well_formed : IsWellFormed k (record { event = out; values = [] })
  pub no_outputs : outputs_with (ports_of_event_block k) (event_at (ports_of_event_block k).event_outputs out) ≡ []
  pub no_inputs : (e : Name) → inputs_with (ports_of_event_block k) e ≡ []

-- Where the program's chart is, in the terms of the definition, and how a reaction ends (IEC 61499-1, 5.2).
use Rattle.std.specs.Prelude.{◌≡◌, ◌<◌, ◌⊎◌, ℕ, List, [], map, length, unwrap_or, slice_get, Some, None, Result, Ok, Err}
use Rattle.fb_types.specs.Names.{Name}
use Rattle.fb_types.specs.Values.{Values}
use Rattle.fb_types.specs.Blocks.{inputs_with, outputs_with}
use Rattle.fb_types.specs.Charts.{Position, Moving}
use Rattle.fb_types.specs.Numbers.{event_at, emission_of, pair_up}
use Rattle.fb_types.specs.Reactions.{with_values}
use Rattle.fb_types.specs.Repeated.{state_names}
use Rattle.fb_types.specs.declared.library.BasicType.{BasicType}
use Rattle.fb_types.specs.declared.run.Emission as run
use Rattle.fb_types.specs.declared.run.Halt.{Halt}
use Rattle.fb_types.specs.declared.run.Halt.TheVariants as halt
use Rattle.fb_types.specs.declared.value.Value.{Value}
use Rattle.fb_st.specs.Frames.{values_of, declared_in}
use Rattle.fb_st.specs.declared.frame.Slot.{Slot}
use Rattle.fb_ecc.specs.Programs.{IsSharedOf}
use Rattle.fb_ecc.specs.Sound.{declared_by}
use Rattle.fb_ecc.specs.declared.state.BasicState.{BasicState}

-- the name of the state at an index
abbrev pub state_at : BasicType → ℕ → Name
state_at t i = unwrap_or (slice_get (state_names t) i) []

-- where a chart is: its state, its variables, the steps that are left, and what it has emitted
abbrev pub index : BasicType → (state : ℕ) → List Slot → (left : ℕ) → List run.Emission → Position
index t state slots left emits =
    record { state = state_at t state; vars = values_of slots; left = left; emitted = map (emission_of t.ports) emits }

-- The index is that of a state. In a type without states, which no text has, each index is that of a state without transitions.
abbrev pub IsStateOf : BasicType → ℕ → Type 0
IsStateOf t i = (t.states ≡ []) ⊎ (i < length t.states)

-- The block is one of this type.
pub record IsBlockOf (t : BasicType) (s : BasicState) : Type 0 where
  pub state : IsStateOf t s.state
  pub chart : IsSharedOf t s.chart
  pub declared : declared_in s.frame ≡ declared_by t

-- How a reaction ended. If memory ran out, nothing is said.
abbrev pub Ended : Result (Unit {0}) Halt → Moving → Position → Position → Type 0
Ended (Ok _) moves p q = moves p None q
Ended (Err (halt.Stop r)) moves p q = moves p (Some r) q
Ended (Err halt.Memory) moves p q = Unit {0}

-- what the variables hold once those WITH the event are sampled
abbrev pub sampled : BasicType → (event : ℕ) → List Value → Values → Values
sampled t event values vars = with_values (pair_up (inputs_with t.ports (event_at t.ports.event_inputs event)) values) vars

-- The emission is one of an event output, with as many values as there are variables WITH it.
abbrev pub IsWellFormed : BasicType → run.Emission → Type 0
IsWellFormed t e =
    (e.event < length t.ports.event_outputs)
    × (length e.values ≡ length (outputs_with t.ports (event_at t.ports.event_outputs e.event)))

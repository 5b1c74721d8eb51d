-- Simulations in which each variable holds a value of its type (IEC 61131-3, 6.4; that simulations begin and are disturbed by such values is this project's profile).
use Rattle.std.specs.Prelude.{◌≡◌, ℕ, List, Some, All}
use Rattle.fb_types.specs.Names.{Path}
use Rattle.fb_types.specs.Blocks.{Kind}
use Rattle.fb_types.specs.Flat.{variables_in}
use Rattle.fb_types.specs.Headline.{Inputs, AreAccepted, system_of, stimuli_of}
use Rattle.fb_types.specs.Simulation.{Stimulus, Taken, IsSimulation}
use Rattle.fb_types.specs.States.{State, Stimulated}
use Rattle.fb_types.specs.Systems.{System}
use Rattle.fb_types.specs.Takes.{world_of}
use Rattle.fb_laws.specs.Typed.{AllFit, AreTyped, IsTypedEvent, IsTypedSystem}

-- each variable begins with a value of its type
abbrev pub BeginsTyped : System → Type 0
BeginsTyped sys = (p : Path) (k : Kind) → sys.kind p ≡ Some k → AllFit (variables_in k) (λ n. sys.initial (record { at = p; name = n }))

-- the slots that a stimulus sets get values of their types
abbrev pub IsTypedStimulus : System → Stimulus → Type 0
IsTypedStimulus sys s = IsTypedEvent sys (Stimulated s.port s.sets)

-- each variable holds a value of its type, as each resource sees it
abbrev pub IsTypedState : System → State → Type 0
IsTypedState sys s = (r : ℕ) → AreTyped sys (world_of s r)

-- The event that is taken carries values of their types, and each variable holds such a value after it.
pub record IsTypedTaking (sys : System) (t : Taken) : Type 0 where
  pub event : IsTypedEvent sys t.event
  pub state : IsTypedState sys t.effect.state

-- What was read is typed: its system, the values with which variables begin, and those that stimuli set.
pub record AreTypedInputs (i : Inputs) : Type 0 where
  pub system : IsTypedSystem (system_of i)
  pub begins : BeginsTyped (system_of i)
  pub stimuli : All (IsTypedStimulus (system_of i)) (stimuli_of i)

abbrev pub AcceptedAreTyped : Type 0
AcceptedAreTyped = (i : Inputs) → AreAccepted i → AreTypedInputs i

-- Each taking of each simulation of what was accepted is typed.
abbrev pub SimulationsAreTyped : Type 0
SimulationsAreTyped =
    (i : Inputs) → AreAccepted i → (horizon limit : ℕ) (ts : List Taken) → IsSimulation (system_of i) (stimuli_of i) horizon limit ts →
    All (IsTypedTaking (system_of i)) ts

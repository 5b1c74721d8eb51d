-- Indexes that represent variables, and those of the variables WITH each event (IEC 61499-1, 5.1; indexes from 0 are
-- this project's profile).
use Rattle.std.specs.Prelude.{◌≡◌, ◌<◌, ℕ, List, [], map, length, All, Some, slice_get, unwrap_or}
use Rattle.fb_types.specs.Names.{Name}
use Rattle.fb_types.specs.Blocks.{variable_names, variables_with, inputs_with, outputs_with}
use Rattle.fb_types.specs.Numbers.{event_at}
use Rattle.fb_types.specs.declared.library.EventPort.{EventPort}
use Rattle.fb_types.specs.declared.library.Ports.{Ports}
use Rattle.fb_types.specs.declared.library.Variable.{Variable}
use Rattle.fb_system.specs.declared.with_indexes.WithIndexes.{WithIndexes}

-- the variable at an index
abbrev pub variable_at : List Variable → ℕ → Name
variable_at vs k = unwrap_or (slice_get (variable_names vs) k) []

-- indexes that represent these names
pub record AreIndexes (vs : List Variable) (names : List Name) (indexes : List ℕ) : Type 0 where
  pub named : map (variable_at vs) indexes ≡ names
  pub within : All (λ k. k < length vs) indexes

-- the indexes of the variables WITH each of the first n events
pub record AreIndexesUpTo (n : ℕ) (events : List EventPort) (variables : List Variable) (all : List (List ℕ)) : Type 0 where
  pub counted : length all ≡ n
  pub each : (e : ℕ) (ks : List ℕ) → slice_get all e ≡ Some ks → AreIndexes variables (variables_with events variables (event_at events e)) ks

abbrev pub AreIndexesOfEach : List EventPort → List Variable → List (List ℕ) → Type 0
AreIndexesOfEach events variables all = AreIndexesUpTo (length events) events variables all

-- for each event of an interface, the indexes of the variables WITH it, in the order in which they are declared
pub record AreWithIndexes (its : Ports) (x : WithIndexes) : Type 0 where
  pub inputs_counted : length x.inputs ≡ length its.event_inputs
  pub inputs : (e : ℕ) (ks : List ℕ) → slice_get x.inputs e ≡ Some ks → AreIndexes its.inputs (inputs_with its (event_at its.event_inputs e)) ks
  pub outputs_counted : length x.outputs ≡ length its.event_outputs
  pub outputs : (e : ℕ) (ks : List ℕ) → slice_get x.outputs e ≡ Some ks → AreIndexes its.outputs (outputs_with its (event_at its.event_outputs e)) ks

-- The stimuli of a system by number, and initial values of variables (this project's profile).
use Rattle.std.specs.Prelude.{◌≡◌, ◌<◌, ℕ, List, false, map, length, All, Some, slice_get}
use Rattle.fb_types.specs.Names.{Path}
use Rattle.fb_types.specs.Blocks.{Bound, variable_names}
use Rattle.fb_types.specs.Headline.{Inputs, system_of, stimuli_of}
use Rattle.fb_types.specs.Numbers.{path_at, ports_at, port_of}
use Rattle.fb_types.specs.Simulation.{Stimulus}
use Rattle.fb_types.specs.Systems.{System}
use Rattle.fb_types.specs.declared.value.Value.{Value}
use Rattle.fb_system.specs.Ports.{IsPort, data_input}
use Rattle.fb_types.specs.declared.run.InputValue.{InputValue}
use Rattle.fb_system.specs.declared.stimulus.StimulusAt.{StimulusAt}
use Rattle.fb_types.specs.declared.run.GivenRow.{GivenRow}

-- a slot of an instance, with the value that it gets
abbrev pub set_of : System → (instance : ℕ) → InputValue → Bound
set_of sys k x = record { variable = (data_input sys k x.index).name; value = x.value }

-- The numbers represent the stimulus at a row.
pub record IsStimulusAt (i : Inputs) (row : ℕ) (x : StimulusAt) : Type 0 where
  pub stimulus : Stimulus
  pub is : slice_get (stimuli_of i) row ≡ Some stimulus
  pub tick : x.tick ≡ stimulus.tick
  pub port : port_of (system_of i) x.target ≡ stimulus.port
  pub is_port : IsPort (system_of i) x.target
  pub input : x.target.is_output ≡ false
  pub sets : map (set_of (system_of i) x.target.instance) x.sets.now ≡ stimulus.sets
  pub within : All (λ s. s.index < length (ports_at (system_of i) (path_at (system_of i) x.target.instance)).inputs) x.sets.now

-- ---- A row that was given

-- the slots that a row sets, with their values
abbrev pub sets_of : System → GivenRow → List Bound
sets_of sys g = map (set_of sys g.target.instance) g.sets

-- The numbers of a row represent an event input, and data inputs of its instance.
pub record IsGivenRow (sys : System) (g : GivenRow) : Type 0 where
  pub is_port : IsPort sys g.target
  pub input : g.target.is_output ≡ false
  pub within : All (λ s. s.index < length (ports_at sys (path_at sys g.target.instance)).inputs) g.sets

-- The row represents this stimulus: its port, and the slots that it sets.
pub record IsRowOf (sys : System) (s : Stimulus) (g : GivenRow) : Type 0 where
  pub row : IsGivenRow sys g
  pub port : port_of sys g.target ≡ s.port
  pub sets : sets_of sys g ≡ s.sets

-- the initial value of each data input of an instance, and of each data output
abbrev pub initial_inputs : System → Path → List Value
initial_inputs sys p = map (λ n. sys.initial (record { at = p; name = n })) (variable_names (ports_at sys p).inputs)

abbrev pub initial_outputs : System → Path → List Value
initial_outputs sys p = map (λ n. sys.initial (record { at = p; name = n })) (variable_names (ports_at sys p).outputs)

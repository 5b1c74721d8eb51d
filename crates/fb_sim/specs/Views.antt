-- A run that is advanced piece by piece, as contracts see it (this project's profile).
use Rattle.std.specs.Prelude.{◌^◌, ℕ, ◌≤◌, List, Option, Some, None, refl}
use Rattle.std.specs.Coded.{Coded, code_by, coded×, coded_ℕ}
use Rattle.fb_types.specs.Headline.{Inputs, system_of}
use Rattle.fb_types.specs.Parts.{machine, count_of}
use Rattle.fb_types.specs.Schedules.{IsAtHorizon}
use Rattle.fb_types.specs.Simulation.{AtStop}
use Rattle.fb_types.specs.States.{Line}
use Rattle.fb_types.specs.contracts.run.Form as form
use Rattle.fb_types.specs.declared.run.Form.{Form}
use Rattle.fb_types.specs.declared.run.StopMark.{StopMark}
use Rattle.fb_system.specs.contracts.system.System as system
use Rattle.fb_laws.specs.Finality.{core_of}
use Rattle.fb_window.specs.declared.cores.CoreState.{CoreState}
use Rattle.fb_sim.specs.Rounds.{HasCome, AreAll}
use Rattle.fb_sim.specs.contracts.state.Stage as stage_row
use Rattle.fb_sim.specs.declared.state.Stage.{Stage}
use Rattle.fb_sim.specs.declared.state.Stage.TheVariants as going
use Rattle.fb_sim.specs.declared.state.SimulationState.{SimulationState}
use Rattle.fb_sim.specs.declared.state.SimulationState.TheVariants as state

-- Inputs, the limit on the steps of a tick, the number of workers, the form of the trace, and the greatest tick that was advanced to.
pub record SimulationView : Type 0 where
  pub inputs : Inputs
  pub steps : ℕ
  pub workers : ℕ
  pub form : Form
  pub to : ℕ
  pub stage : Stage

-- a simulation is stored as its six parts
abbrev pub view_code : Coded SimulationView
view_code =
    code_by (Inputs × (ℕ × (ℕ × (Form × (ℕ × Stage)))))
    (coded× system.the_row.coded (coded× coded_ℕ (coded× coded_ℕ (coded× form.the_row.coded (coded× coded_ℕ stage_row.the_row.coded)))))
    (λ s. (s.inputs, (s.steps, (s.workers, (s.form, (s.to, s.stage))))))
    (λ p. record { inputs = p.0; steps = p.1.0; workers = p.1.1.0; form = p.1.1.1.0; to = p.1.1.1.1.0; stage = p.1.1.1.1.1 })
    (λ _. refl)

abbrev pub stage_of : SimulationState → Stage
stage_of (state.Open core) = going.Running
stage_of (state.Stopped mark) = going.Stopped mark
stage_of state.Failed = going.Failed

-- the core, where there is one
abbrev pub core_in : SimulationState → Option CoreState
core_in (state.Open core) = Some core
core_in (state.Stopped mark) = None
core_in state.Failed = None

-- The core has reached the tick, with every clock there, and all lines below it were handed out.
pub record IsAhead (i : Inputs) (limit to : ℕ) (core : CoreState) : Type 0 where
  pub lines : List Line
  pub come : HasCome i limit to core lines
  pub at : IsAtHorizon (machine (system_of i) limit) (count_of (system_of i)) to (core_of i limit come.steps)

-- The simulation to the tick stops so.
pub record HasStoppedAt (i : Inputs) (limit to : ℕ) (mark : StopMark) : Type 0 where
  pub lines : List Line
  pub all : AreAll i limit to lines (AtStop mark.tick mark.resource mark.reason)

abbrev pub IsAtTick : (i : Inputs) (limit to : ℕ) → SimulationState → Type 0
IsAtTick i limit to (state.Open core) = IsAhead i limit to core
IsAtTick i limit to (state.Stopped mark) = HasStoppedAt i limit to mark
IsAtTick i limit to state.Failed = Unit {0}

-- Its options are in their ranges, and it is where it says.
pub record IsSimulationState (i : Inputs) (limit workers to : ℕ) (s : SimulationState) : Type 0 where
  pub some_steps : 1 ≤ limit
  pub few_steps : limit ≤ 10 ^ 7
  pub some_workers : 1 ≤ workers
  pub few_workers : workers ≤ 64
  pub early : to ≤ 10 ^ 12
  pub at : IsAtTick i limit to s

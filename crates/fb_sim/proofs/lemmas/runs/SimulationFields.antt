-- What contracts see of a simulation, from its fields.
use Rattle.std.proofs.Common.{◌≡◌, Some, None}
use Rattle.fb_sim.specs.Views.{SimulationView, core_in, stage_of}
use Rattle.fb_sim.specs.declared.simulation.Simulation.TheInside.{Inside}
use Rattle.fb_sim.specs.declared.state.Stage.TheVariants as going
use Rattle.fb_sim.specs.declared.state.SimulationState.{SimulationState}
use Rattle.fb_sim.specs.declared.state.SimulationState.TheVariants as state

abbrev pub seen : Inside → SimulationView
seen s = record { inputs = s.system; steps = s.steps; workers = s.workers; form = s.form; to = s.to; stage = stage_of s.state }

-- Who goes on has a core.
pub has_core : (s : SimulationState) → stage_of s ≡ going.Running → core_in s ≡ None → ⊥
has_core (state.Open core) p e = let f : Some core ≡ None = e in cc
has_core (state.Stopped mark) p e = let f : going.Stopped mark ≡ going.Running = p in cc
has_core state.Failed p e = let f : going.Failed ≡ going.Running = p in cc

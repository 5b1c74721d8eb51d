use Rattle.fb_types.proofs.Common.{ℕ, Config}
use Rattle.fb_sim_machine.specs.Counts.{fuel_of_all}
use Rattle.fb_sim_machine.specs.Machines.{IsAt, IsReady}
use Rattle.fb_sim.proofs.one_agenda.is_quicker.Given as goal

abbrev pub invariant-loop-machine : goal.invariant-loop-machine
invariant-loop-machine g l = record {
  ready : (tick : ℕ) × IsReady l.system l.options.steps tick l.machine;
  represents : (c : Config) × IsAt l.system c.state c.agenda l.machine;
}

abbrev pub decreases-loop-machine : goal.decreases-loop-machine
decreases-loop-machine g l = fuel_of_all l.options.horizon l.options.steps l.machine.meters.items

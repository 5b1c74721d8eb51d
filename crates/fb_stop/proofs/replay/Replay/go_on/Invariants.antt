use Rattle.fb_types.proofs.Common.{ℕ, List, system_of, stimuli_of, Taken, opening, Config}
use Rattle.fb_sim_machine.specs.Completions.{Reaches}
use Rattle.fb_sim_machine.specs.Counts.{fuel_of_all}
use Rattle.fb_sim_machine.specs.Machines.{IsAt, IsReady}
use Rattle.fb_stop.specs.Copies.{AreAllCopies}
use Rattle.fb_stop.proofs.replay.Replay.go_on.Given as goal

abbrev pub invariant-loop-self : goal.invariant-loop-self
invariant-loop-self l = record {
  ready : (tick : ℕ) × IsReady l.system l.limit tick l.self.run;
  at : Config;
  taken : List Taken;
  reaches : Reaches l.system l.horizon l.limit (opening (system_of l.system) (stimuli_of l.system)) at taken;
  is : IsAt l.system at.state at.agenda l.self.run;
  copies : AreAllCopies l.system at.state l.self.copies.items;
}

abbrev pub decreases-loop-self : goal.decreases-loop-self
decreases-loop-self l = fuel_of_all l.horizon l.limit l.self.run.meters.items

use Rattle.fb_types.proofs.Common.{◌≡◌, ℕ, List, length, system_of, stimuli_of, Taken, opening, Config}
use Rattle.fb_sim_machine.specs.Completions.{Reaches}
use Rattle.fb_sim_machine.specs.Counts.{fuel_of_all}
use Rattle.fb_sim_machine.specs.Machines.{IsAt, IsReady}
use Rattle.fb_stop.specs.Spent.{ChargesAll}
use Rattle.fb_stop.proofs.spent.go_on.Given as goal

abbrev pub invariant-loop-moment : goal.invariant-loop-moment
invariant-loop-moment l = record {
  ready : (tick : ℕ) × IsReady l.system l.limit tick l.run;
  at : Config;
  taken : List Taken;
  reaches : Reaches l.system l.horizon l.limit (opening (system_of l.system) (stimuli_of l.system)) at taken;
  is : IsAt l.system at.state at.agenda l.run;
  counted : length l.spent.items ≡ length (system_of l.system).paths;
  charged : ChargesAll (system_of l.system) l.limit l.moment (opening (system_of l.system) (stimuli_of l.system)) taken l.initial.spent.items l.spent.items;
}

abbrev pub decreases-loop-moment : goal.decreases-loop-moment
decreases-loop-moment l = fuel_of_all l.horizon l.limit l.run.meters.items

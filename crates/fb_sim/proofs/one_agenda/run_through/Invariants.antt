use Rattle.std.proofs.Common.{◌≡◌, [], ℕ}
use Rattle.fb_sim_machine.specs.Counts.{fuel_of_all}
use Rattle.fb_sim_machine.specs.Machines.{IsReady}
use Rattle.fb_sim.proofs.lemmas.runs.OneAgendaIs.{Gone}
use Rattle.fb_sim.proofs.one_agenda.run_through.Given as goal

abbrev pub invariant-loop-pause : goal.invariant-loop-pause
invariant-loop-pause g l = record {
  ready : (tick : ℕ) × IsReady l.system l.options.steps tick l.machine;
  none : l.machine.traffic.outbox.lines.items ≡ [];
  gone : Gone l.system l.options l.machine (g.W.Write.contents l.initial.out) (g.W.Write.contents l.out) l.written;
}

abbrev pub decreases-loop-pause : goal.decreases-loop-pause
decreases-loop-pause g l = fuel_of_all l.options.horizon l.options.steps l.machine.meters.items

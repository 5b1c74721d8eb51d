use Rattle.fb_types.proofs.Common.{◌≡◌, ℕ, Config}
use Rattle.fb_sim_machine.specs.Counts.{fuel_of_all}
use Rattle.fb_sim_machine.specs.Machines.{IsAt, IsReady}
use Rattle.fb_session.proofs.lemmas.RunIs.{Gone}
use Rattle.fb_session.proofs.run.run_on.Given as goal

abbrev pub invariant-loop-pause : goal.invariant-loop-pause
invariant-loop-pause g l = record {
  ready : (tick : ℕ) × IsReady l.system l.reach.steps tick l.machine;
  set : (l.breaks.set.items ≡ l.initial.breaks.set.items) × (l.breaks.count ≡ l.initial.breaks.count);
  gone : (c : Config) → IsAt l.system c.state c.agenda l.initial.machine
      → Gone l.system l.reach l.initial.breaks.set.items c l.initial.machine l.machine (g.W.Write.contents l.initial.out) (g.W.Write.contents l.out) l.written;
}

abbrev pub decreases-loop-pause : goal.decreases-loop-pause
decreases-loop-pause g l = fuel_of_all l.reach.to l.reach.steps l.machine.meters.items

use Rattle.fb_sim.proofs.lemmas.Common.{◌≤◌, List, HasCome}
use Rattle.fb_types.specs.States.{Line}
use Rattle.fb_sim.proofs.lemmas.rounds.RunIs.{Came}
use Rattle.fb_sim.proofs.rounds.all_rounds.run_on.Given as goal

abbrev pub invariant-loop : goal.invariant-loop
invariant-loop g l = record {
  some : 1 ≤ l.workers;
  few : l.workers ≤ 64;
  some_ticks : 1 ≤ l.ticks;
  few_ticks : l.ticks ≤ 1024;
  early : l.counter ≤ l.options.horizon;
  came : (ls : List Line) → HasCome l.system l.options.steps l.options.horizon l.fn.first ls
      → Came l.system l.options ls l.round_state.core l.round_state.unwritten (g.W.Write.contents l.initial.out) (g.W.Write.contents l.out) l.written l.counter;
}

use Rattle.std.proofs.Common.{◌≤◌, [], Some}
use Rattle.fb_sim.proofs.lemmas.rounds.RunIs.{Came}
use Rattle.fb_sim.proofs.rounds.first_rounds.run_first.Given as goal

abbrev pub invariant-loop : goal.invariant-loop
invariant-loop g l = record {
  some : 1 ≤ l.workers;
  few : l.workers ≤ 64;
  some_ticks : 1 ≤ l.ticks;
  few_ticks : l.ticks ≤ 1024;
  early : l.counter ≤ l.options.horizon;
  came : Came l.system l.options [] l.round_state.core l.round_state.unwritten (Some l.initial.text.items) (Some l.text.items) l.written l.counter;
}

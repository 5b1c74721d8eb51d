use Rattle.fb_sim.proofs.lemmas.Common.{◌≡◌, Came, hundredth, view_at}
use Rattle.fb_sim.proofs.with_progress.go_far.Given as goal

abbrev pub invariant-loop-count : goal.invariant-loop-count
invariant-loop-count g l = record {
  at : l.simulation ≡ view_at l.fn.simulation.inputs l.options (hundredth l.options.horizon l.count);
  came : Came l.fn.simulation.inputs l.options (g.W.Write.contents l.initial.out) (g.W.Write.contents l.out) (g.E.Write.contents l.initial.err) (g.E.Write.contents l.err) l.count l.tally;
}

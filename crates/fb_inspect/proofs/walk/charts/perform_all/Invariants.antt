use Rattle.fb_inspect.proofs.lemmas.Common.{◌≡◌, ◌≤◌, drop, actions_of, state_at, Acting, StepGoes, place, sys_of, IsNext}
use Rattle.fb_inspect.specs.walk.Charting.{IsChartOf}
use Rattle.fb_inspect.proofs.walk.charts.perform_all.Given as goal

-- what the rest of the actions does from here, all do from the start
abbrev pub invariant-loop-action : goal.invariant-loop-action
invariant-loop-action g l = record {
  chart : IsChartOf l.taking.block.now l.chart;
  state : l.chart.state.state ≡ l.fn.chart.state.state;
  fewer : l.meter.left ≤ l.fn.meter.left;
  next : IsNext (sys_of l.taking) l.taking.fixed.form l.taking.line.now.key.tick l.trail.reading.line.items l.trail.reading.next;
  came : let t = l.taking.block.now in let all = actions_of t (state_at t l.fn.chart.state.state) in
      StepGoes l.taking (Acting t all) (place t l.fn.chart l.fn.meter.left) (Acting t (drop l.action all)) (place t l.chart l.meter.left)
      l.fn.trail l.trail (g.R.Read.remaining l.fn.input) (g.R.Read.remaining l.input);
}

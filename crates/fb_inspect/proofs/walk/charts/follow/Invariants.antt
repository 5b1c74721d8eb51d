use Rattle.fb_inspect.proofs.lemmas.Common.{◌<◌, length, Some, IfSome, option_map, event_at, ShowsChain, StepGoes, place, sys_of, IsNext}
use Rattle.fb_inspect.specs.walk.Charting.{IsChartOf}
use Rattle.fb_inspect.proofs.walk.charts.follow.Given as goal

-- the chain that goes on from here goes on from the start
abbrev pub invariant-loop-reason : goal.invariant-loop-reason
invariant-loop-reason g l = record {
  chart : IsChartOf l.taking.block.now l.chart;
  present : IfSome l.present (λ event. event < length l.taking.block.now.ports.event_inputs);
  next : IsNext (sys_of l.taking) l.taking.fixed.form l.taking.line.now.key.tick l.trail.reading.line.items l.trail.reading.next;
  came : let t = l.taking.block.now in
      StepGoes l.taking (ShowsChain t (Some (event_at t.ports.event_inputs l.taking.line.now.event))) (place t l.fn.chart l.fn.meter.left)
      (ShowsChain t (option_map (event_at t.ports.event_inputs) l.present)) (place t l.chart l.meter.left)
      l.fn.trail l.trail (g.R.Read.remaining l.fn.input) (g.R.Read.remaining l.input);
}

abbrev pub decreases-loop-reason : goal.decreases-loop-reason
decreases-loop-reason g l = l.meter.left

use Rattle.fb_types.specs.Headline.{system_of}
use Rattle.fb_net.specs.Opening.{AreCharts}
use Rattle.fb_inspect.specs.walk.Walking.{OpenAll}
use Rattle.fb_inspect.proofs.walk.blocks.opened_all.Given as goal

abbrev pub invariant-loop-index : goal.invariant-loop-index
invariant-loop-index l = record {
  all : OpenAll (system_of l.system) l.index l.all.items;
  charts : AreCharts l.system l.charts;
}

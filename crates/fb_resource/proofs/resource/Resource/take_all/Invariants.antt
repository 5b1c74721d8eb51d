use Rattle.fb_resource.proofs.lemmas.Common.{◌≡◌, ◌≤◌, None, system_of, Local, machine, Contents, meter_of, Represents, Finds}
use Rattle.fb_resource.specs.Counts.{IsUnused, fuel}
use Rattle.fb_resource.specs.Runs.{ComesTo, IsRunning, in_run, with_traffic}
use Rattle.fb_resource.proofs.resource.Resource.take_all.Given as goal

-- `was` is the agenda from which the event in `Least` was taken, if one was found
abbrev pub invariant-events : goal.invariant-events
invariant-events l = record {
  was : Contents;
  finds : Finds l.to was l.found l.least.key l.least.event l.traffic.agenda;
  due : l.traffic.agenda.due ≡ was.due;
  running : IsRunning l.system l.steps (in_run l.self l.counts (record l.traffic { agenda = was }));
  ahead : l.self.clock ≤ l.to;
  live : l.self.stopped ≡ None;
  tree : l.self.tree.resource ≡ l.fn.self.tree.resource;
  unused : IsUnused l.to (meter_of l.counts);
  comes : (m : Local (machine (system_of l.system) l.steps)) → Represents l.system l.steps m (with_traffic l.fn.self l.fn.traffic)
      → ComesTo l.system l.steps l.fn.self.tree.resource l.to m (in_run l.self l.counts (record l.traffic { agenda = was }));
}

abbrev pub decreases-events : goal.decreases-events
decreases-events l = fuel l.to l.steps l.counts

use Rattle.fb_window.specs.Frontiers.{IsFrontierTo, edge_of}
use Rattle.fb_window.proofs.frontier.frontier_of.Given as goal

abbrev pub invariant-loop-index : goal.invariant-loop-index
invariant-loop-index l = IsFrontierTo l.least l.resources l.index (edge_of l.at)

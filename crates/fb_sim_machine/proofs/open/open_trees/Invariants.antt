use Rattle.fb_sim_machine.specs.Openings.{AreOpened}
use Rattle.fb_sim_machine.proofs.open.open_trees.Given as goal

abbrev pub invariant-loop-resource : goal.invariant-loop-resource
invariant-loop-resource l = AreOpened l.system l.resource l.trees.items
